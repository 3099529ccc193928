-- The lines after the sheet, both ways, for any rule of adding. Assumes nothing.
use Rattle.std.proofs.Common.{◌≡◌, ℕ, ◌+◌, ◌≤◌, true, List, [], ◌∷◌, ◌++◌, map, length, Some, None, Ok, Err, codes, Option, Result, sym, refl, ap, ◌∙◌, subst, ⊎_elim, arith}
use Rattle.std.specs.List.{AllByRecursion}
use Rattle.std.proofs.lemmas.List.{append_assoc, append-nil, length-append}
use Rattle.std.proofs.lemmas.Bool.{eq-eqb, eqb-true, ltb-true, lt-ltb}
use Rattle.terms.specs.Limits.{most_positions}
use Rattle.terms.specs.declared.refusals.Refusal.{Refusal}
use Rattle.figures.specs.declared.kinds.Account.{Account}
use Rattle.figures.specs.declared.kinds.Position.{Position}
use Rattle.daytext.specs.Text.{plain_of, Short, Parts, more, after}
use Rattle.daytext.proofs.Texts.{plain_made, plain_back, after_back, ended, ended_append}
use Rattle.dayfile.specs.Days.{Entry, Rule, position_line, account_line, end_line, rest_lines, Numbered, Written, Accepted}
use Rattle.dayfile.specs.Reading.{◌>>=◌, Hand, placed, told, settled, nothing, body, run}
use Rattle.dayfile.proofs.Steps.{err_ok, ok_same, then_back, given_back, want_back, then_made, given_made, want_made, maybe_back}
use Rattle.dayfile.proofs.LineFields.{position_made, position_back, account_made, account_back}

-- an account with positions that follow those it has
abbrev grown : Entry → List Position → Entry
grown e qs = record { account = e.account; positions = e.positions ++ qs }

grown_more : (h : Hand) (q : Position) (qs : List Position) → grown (placed h q).entry qs ≡ grown h.entry (q ∷ qs)
grown_more h q qs = ap (λ ps. record { account = h.entry.account; positions = ps }) (append_assoc h.entry.positions (q ∷ []) qs)

grown_none : (e : Entry) → grown e [] ≡ e
grown_none e = ap (λ ps. record { account = e.account; positions = ps }) (append-nil e.positions)

-- an account before its positions
abbrev pub opened : ℕ → Account → Hand
opened n a = record { line = n; entry = record { account = a; positions = [] } }

-- an account that was accepted
pub told_back : (r : Result (List ℕ) Refusal) (n : ℕ) (c : List ℕ) → told r n ≡ Ok c → r ≡ Ok c
told_back (Ok x) n c h = ap Ok (ok_same h)
told_back (Err e) n c h = err_ok h

-- no byte follows the end
pub nothing_back : (m : List ℕ) (ls : List (List ℕ)) → nothing m ls ≡ true → ◌≡◌ {A = Parts} (m, ls) ([], [])
nothing_back [] [] h = refl
nothing_back [] (l ∷ ls) h = let z : ◌≡◌ {A = ℕ} 0 1 = cc in absurd (omega arith)
nothing_back (c ∷ cs) ls h = let z : ◌≡◌ {A = ℕ} 0 1 = cc in absurd (omega arith)

-- What the lines p hold where reading accepts them: the accounts es, after those done; `all` is every account of the file.
pub record Left (add : Rule) (done : List Entry) (columns : List ℕ) (es : List Entry) (p : Parts) (all : List Entry) : Type 0 where
  pub is : all ≡ done ++ es
  pub lines : p ≡ ended (rest_lines es (length all)) ([], [])
  pub sound : AllByRecursion Written es
  pub accepted : Accepted add columns es
  pub short : Short (length all)

-- the same with an account in hand, and positions that follow it
record HeldLeft (add : Rule) (done : List Entry) (columns : List ℕ) (h : Hand) (qs : List Position) (es : List Entry) (p : Parts) (all : List Entry) : Type 0 where
  is : all ≡ done ++ (grown h.entry qs ∷ es)
  lines : p ≡ ended (map position_line qs) (ended (rest_lines es (length all)) ([], []))
  numbered : AllByRecursion Numbered qs
  few : length h.entry.positions + length qs ≤ most_positions
  sound : AllByRecursion Written es
  accepted : Accepted add columns (grown h.entry qs ∷ es)
  short : Short (length all)

-- both, by whether an account is in hand
abbrev After : Rule → List Entry → List ℕ → Option Hand → Parts → List Entry → Type 0
After add done columns None p all = (es : List Entry) × Left add done columns es p all
After add done columns (Some h) p all = (qs : List Position) × (es : List Entry) × HeldLeft add done columns h qs es p all

-- the account in hand has no more positions than it may
abbrev Few : Option Hand → Type 0
Few None = Unit {0}
Few (Some h) = length h.entry.positions ≤ most_positions

-- the account in hand before those that follow once it is added
join : (add : Rule) (done : List Entry) (columns : List ℕ) (hand : Option Hand) (s : List Entry × List ℕ) (es : List Entry) (p : Parts) (all : List Entry) → Few hand → settled add done columns hand ≡ Ok s → Left add s.0 s.1 es p all → After add done columns hand p all
join add done columns None s es p all f e left = (es, subst (λ (x : List Entry × List ℕ). Left add x.0 x.1 es p all) (sym (ok_same e)) left)
join add done columns (Some h) s es p all f e left =
    let t = then_back (told (add columns h.entry) h.line) _ _ e in
    let l : Left add (done ++ (h.entry ∷ [])) t.0 es p all = subst (λ (x : List Entry × List ℕ). Left add x.0 x.1 es p all) (sym (ok_same t.2)) left in (
      [],
      es,
      record {
        is = l.is ∙ append_assoc done (h.entry ∷ []) es ∙ ap (λ a. done ++ (a ∷ es)) (sym (grown_none h.entry));
        lines = l.lines;
        numbered = tt;
        few = omega (arith, f);
        sound = l.sound;
        accepted = (t.0, ap (add columns) (grown_none h.entry) ∙ told_back (add columns h.entry) h.line t.0 t.1, l.accepted);
        short = l.short;
      },
    )

-- from any line on
body_left : (add : Rule) (done : List Entry) (columns : List ℕ) (hand : Option Hand) (n : ℕ) (l : List ℕ) (ls : List (List ℕ)) (all : List Entry) → Few hand → body add done columns hand n l ls ≡ Ok all → After add done columns hand (l, ls) all
body_left add done columns hand n l [] all f h = ⊎_elim
    (λ p. err_ok p.2)
    (λ p. let s = then_back (settled add done columns hand) _ _ p.1 in err_ok s.2)
    (maybe_back (after (codes "pos=") l) _ _ _ h)
body_left add done columns hand n l (m ∷ ls) all f h = ⊎_elim
    (λ p.
    let g = given_back hand _ _ _ p.2 in
    let q = given_back _ _ _ _ g.2 in
    let w = want_back _ _ _ _ q.2 in
    let room = ltb-true _ _ w.0 in
    let i = body_left add done columns (Some (placed g.0 q.0)) (n + 1) m ls all (simp length-append (omega (arith, room))) w.1 in
    let r = i.2 in
    let x = position_back _ _ q.1 in
    let e : l ≡ position_line q.0 = after_back (codes "pos=") l p.0 p.1 ∙ ap (λ t. codes "pos=" ++ t) x.0 in
    subst (λ o. After add done columns o (l, m ∷ ls) all) (sym g.1) (
      q.0 ∷ i.0,
      i.1,
      record {
        is = r.is ∙ ap (λ a. done ++ (a ∷ i.1)) (grown_more g.0 q.0 i.0);
        lines = (λ j. more (e j) (r.lines j));
        numbered = (x.1, r.numbered);
        few = omega (arith, simp length-append at r.few);
        sound = r.sound;
        accepted = subst (λ a. Accepted add columns (a ∷ i.1)) (grown_more g.0 q.0 i.0) r.accepted;
        short = r.short;
      },
    ))
    (λ p.
    let s = then_back (settled add done columns hand) _ _ p.1 in
    ⊎_elim
    (λ t.
    let g = given_back _ _ _ _ t.2 in
    let x = account_back _ _ g.1 in
    let b = x.1 in
    let i = body_left add s.0.0 s.0.1 (Some (opened n g.0)) (n + 1) m ls all (omega arith) g.2 in
    let r = i.2 in
    let a : Entry = record { account = g.0; positions = i.0 } in
    let e : l ≡ account_line g.0 = after_back (codes "acc=") l t.0 t.1 ∙ ap (λ y. codes "acc=" ++ y) x.0 in
    join add done columns hand s.0 (a ∷ i.1) (l, m ∷ ls) all f s.1 (record {
      is = r.is;
      lines = (λ j. more (e j) ((r.lines ∙ sym (ended_append (map position_line i.0) (rest_lines i.1 (length all)) ([], []))) j));
      sound = (record { required = b.required; posted = b.posted; few = omega (arith, r.few); positions = r.numbered }, r.sound);
      accepted = r.accepted;
      short = r.short;
    }))
    (λ t.
    let k = given_back (after (codes "end=") l) _ _ _ t.1 in
    let v = given_back (plain_of k.0) _ _ _ k.2 in
    let c = want_back _ _ _ _ v.2 in
    let z = want_back _ _ _ _ c.1 in
    let d = plain_back _ _ v.1 in
    let is : s.0.0 ≡ all = ok_same z.1 in
    let count : v.0 ≡ length all = eqb-true _ _ c.0 ∙ ap length is in
    let e : l ≡ end_line (length all) = after_back (codes "end=") l k.0 k.1 ∙ ap (λ y. codes "end=" ++ y) d.0 ∙ ap end_line count in
    join add done columns hand s.0 [] (l, m ∷ ls) all f s.1 (record {
      is = sym is ∙ sym (append-nil s.0.0);
      lines = (λ j. more (e j) (nothing_back m ls z.0 j));
      sound = tt;
      accepted = tt;
      short = subst Short count d.1;
    }))
    (maybe_back (after (codes "acc=") l) _ _ _ s.2))
    (maybe_back (after (codes "pos=") l) _ _ _ h)

-- from the first line on
pub body_back : (add : Rule) (columns : List ℕ) (n : ℕ) (p : Parts) (all : List Entry) → run add [] columns None n p ≡ Ok all → Left add [] columns all p all
body_back add columns n p all h =
    let r = body_left add [] columns None n p.0 p.1 all tt h in
    subst (λ x. Left add [] columns x p all) (sym r.1.is) r.1

-- The other way. The account in hand after its positions' lines, and the line that follows them
abbrev taken : Hand → List Position → Hand
taken h qs = record { line = h.line; entry = grown h.entry qs }

abbrev later : ℕ → List Position → ℕ
later n [] = n
later n (q ∷ qs) = later (n + 1) qs

-- the lines of positions
positions_made : (add : Rule) (done : List Entry) (columns : List ℕ) (h : Hand) (n : ℕ) (qs : List Position) (p : Parts) → AllByRecursion Numbered qs → length h.entry.positions + length qs ≤ most_positions → run add done columns (Some h) n (ended (map position_line qs) p) ≡ run add done columns (Some (taken h qs)) (later n qs) p
positions_made add done columns h n [] p nq few = ap (λ a. run add done columns (Some (record { line = h.line; entry = a })) n p) (sym (grown_none h.entry))
positions_made add done columns h n (q ∷ qs) p nq few =
    given_made _ _ _ q (position_made q nq.0)
    (want_made _ _ _ (lt-ltb (length h.entry.positions) most_positions (omega arith))
    (positions_made add done columns (placed h q) (n + 1) qs p nq.1 (simp length-append (omega arith))
    ∙ ap (λ a. run add done columns (Some (record { line = h.line; entry = a })) (later (n + 1) qs) p) (grown_more h q qs)))

pub settled_made : (add : Rule) (done : List Entry) (columns : List ℕ) (h : Hand) (new : List ℕ) → add columns h.entry ≡ Ok new → settled add done columns (Some h) ≡ Ok (done ++ (h.entry ∷ []), new)
settled_made add done columns h new e = ap (λ r. ◌>>=◌ (told r h.line) (λ c. Ok (done ++ (h.entry ∷ []), c))) e

-- an account's line, and its positions' and other lines after it
account_line_made : (add : Rule) (done : List Entry) (columns : List ℕ) (hand : Option Hand) (n : ℕ) (e : Entry) (ls : List (List ℕ)) (s : List Entry × List ℕ) → settled add done columns hand ≡ Ok s → Written e
    → run add done columns hand n (more (account_line e.account) (ended (map position_line e.positions ++ ls) ([], []))) ≡ run add s.0 s.1 (Some (opened n e.account)) (n + 1) (ended (map position_line e.positions) (ended ls ([], [])))
account_line_made add done columns hand n e ls s h w =
    then_made (settled add done columns hand) _ s h
    (given_made _ _ _ e.account (account_made e.account (record { required = w.required; posted = w.posted }))
    (ap (run add s.0 s.1 (Some (opened n e.account)) (n + 1)) (ended_append (map position_line e.positions) ls ([], []))))

-- an account in hand, its other positions, the accounts after it and the end
accounts_made : (add : Rule) (done : List Entry) (columns : List ℕ) (h : Hand) (n : ℕ) (qs : List Position) (es : List Entry) (k : ℕ) → AllByRecursion Numbered qs → length h.entry.positions + length qs ≤ most_positions → Accepted add columns (grown h.entry qs ∷ es) → AllByRecursion Written es → length done + 1 + length es ≡ k → Short k
    → run add done columns (Some h) n (ended (map position_line qs) (ended (rest_lines es k) ([], []))) ≡ Ok (done ++ (grown h.entry qs ∷ es))
accounts_made add done columns h n qs [] k nq few acc sound count short =
    positions_made add done columns h n qs (ended (rest_lines [] k) ([], [])) nq few
    ∙ then_made (settled add done columns (Some (taken h qs))) _ (done ++ (grown h.entry qs ∷ []), acc.0) (settled_made add done columns (taken h qs) acc.0 acc.1)
    (given_made _ _ _ k (plain_made k short) (want_made _ _ _ (eq-eqb k (length (done ++ (grown h.entry qs ∷ []))) (simp length-append (omega arith))) refl))
accounts_made add done columns h n qs (e ∷ es) k nq few acc sound count short =
    let w = sound.0 in
    positions_made add done columns h n qs (ended (rest_lines (e ∷ es) k) ([], [])) nq few
    ∙ account_line_made add done columns (Some (taken h qs)) (later n qs) e (rest_lines es k) (done ++ (grown h.entry qs ∷ []), acc.0) (settled_made add done columns (taken h qs) acc.0 acc.1) w
    ∙ accounts_made add (done ++ (grown h.entry qs ∷ [])) acc.0 (opened (later n qs) e.account) (later n qs + 1) e.positions es k w.positions (omega (arith, w.few)) acc.2 sound.1 (simp length-append (omega arith)) short
    ∙ ap Ok (append_assoc done (grown h.entry qs ∷ []) (e ∷ es))

-- all accounts and the end
pub body_made : (add : Rule) (columns : List ℕ) (n : ℕ) (es : List Entry) → Accepted add columns es → AllByRecursion Written es → Short (length es) → run add [] columns None n (ended (rest_lines es (length es)) ([], [])) ≡ Ok es
body_made add columns n [] acc sound short = refl
body_made add columns n (e ∷ es) acc sound short =
    let w = sound.0 in
    account_line_made add [] columns None n e (rest_lines es (length (e ∷ es))) ([], columns) refl w
    ∙ accounts_made add [] columns (opened n e.account) (n + 1) e.positions es (length (e ∷ es)) w.positions (omega (arith, w.few)) acc sound.1 (omega arith) short
