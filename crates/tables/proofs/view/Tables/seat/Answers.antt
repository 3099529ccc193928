use Rattle.std.proofs.Common.{◌≡◌, arith}
use Rattle.tables.proofs.Holding.{seat_within}
use Rattle.tables.specs.Book.{seat_at}
use Rattle.std.proofs.lemmas.Grind.{common_steps}
use Rattle.tables.proofs.view.Tables.seat.Goals as goal

pub returns-clause-held : goal.returns-clause-held
returns-clause-held c =
    let t = c.args.self.now.seats.all.now in
    let m = c.args.member in
    let s = c.args.segment in
    let part = seat_within t s.number m.number m.known in
    let ceiling = c.args.self.now.ceiling s.number s.known in
    let here : c.seat.result.held ≡ (seat_at t m.number s.number).held = grind (arith, common_steps) in
    omega arith
