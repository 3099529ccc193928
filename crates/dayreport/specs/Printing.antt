-- The bytes that are printed of an answer.
use Rattle.std.specs.Prelude.{◌≡◌, ℕ, ◌+◌, List, [], ◌∷◌, ◌++◌, length, take, Ok, Err, codes, Result}
use Rattle.terms.specs.Refusing.{number_of}
use Rattle.figures.specs.declared.kinds.Numbers.{Numbers}
use Rattle.daytext.specs.Text.{decimal}
use Rattle.dayreport.specs.declared.faults.Fault.{Fault}
use Rattle.dayreport.specs.Faults.{refusal_in, line_in, layer_in}

-- room for the longest report
abbrev pub report_bytes : ℕ
report_bytes = 128

-- a key, a number and byte 10
abbrev pub line_text : List ℕ → ℕ → List ℕ
line_text key n = key ++ (decimal n ++ (10 ∷ []))

-- member, segment, day and figure, a line each
abbrev pub figure_text : Numbers → List ℕ
figure_text f = line_text (codes "member=") f.member ++ (line_text (codes "segment=") f.segment ++ (line_text (codes "day=") f.day ++ line_text (codes "risk=") f.amount))

-- the refusal's number, the line and the layer
abbrev pub fault_text : Fault → List ℕ
fault_text f = codes "refused=" ++ (decimal (number_of (refusal_in f)) ++ (codes "," ++ (decimal (line_in f) ++ (codes "," ++ (layer_in f ∷ 10 ∷ [])))))

abbrev pub printed : Result Numbers Fault → List ℕ
printed (Ok f) = figure_text f
printed (Err f) = fault_text f

-- text was written from one place to another, behind what stood before
pub record Wrote (before : List ℕ) (at : ℕ) (text : List ℕ) (end : ℕ) (after : List ℕ) : Type 0 where
  pub bytes : take end after ≡ take at before ++ text
  pub place : end ≡ at + length text
