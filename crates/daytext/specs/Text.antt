-- Texts of lines and fields that hold whole numbers: how they are read and how they are written. A text is a list of
-- bytes, and a byte in single quotes below stands for its code.
use Rattle.std.specs.Borrow.{Bor}
use Rattle.std.specs.Prelude.{◌≡◌, ℕ, zero, suc, ◌+◌, ◌-◌, ◌*◌, ◌^◌, ◌<◌, Bool, true, false, cond, not, ◌&&◌, List, [], ◌∷◌, ◌++◌, map, length, take, drop, ℤ, pos, negsuc, Some, None, Option, ◌==◌, nat_le, unsigned_abs}
use Rattle.std.specs.Int.Digits.{digits_of}
use Rattle.std.specs.List.{between}

-- NUMBERS, AS THEY ARE READ

-- the most digits that a number has
abbrev pub longest : ℕ
longest = 13

-- the number that digits ('0' is 48, '9' is 57) make, read on from the number n
abbrev pub digits : ℕ → List ℕ → Option ℕ
digits n [] = Some n
digits n (c ∷ cs) = cond (nat_le 48 c && nat_le c 57) (digits (n * 10 + (c - 48)) cs) None

-- a whole number: one digit, or up to the longest with no '0' in front
abbrev pub plain_of : List ℕ → Option ℕ
plain_of [] = None
plain_of (c ∷ []) = digits 0 (c ∷ [])
plain_of (c ∷ d ∷ cs) = cond (c == 48) None (cond (nat_le (length (c ∷ d ∷ cs)) longest) (digits 0 (c ∷ d ∷ cs)) None)

-- the number below 0 of this size, which is none for 0
abbrev pub below : Option ℕ → Option ℤ
below None = None
below (Some zero) = None
below (Some (suc n)) = Some (negsuc n)

-- the number of this size that is not below 0
abbrev pub above : Option ℕ → Option ℤ
above None = None
above (Some n) = Some (pos n)

-- a whole number, or one that is not 0 after a minus ('-' is 45)
abbrev pub signed_of : List ℕ → Option ℤ
signed_of [] = None
signed_of (c ∷ cs) = cond (c == 45) (below (plain_of cs)) (above (plain_of (c ∷ cs)))

-- NUMBERS, AS THEY ARE WRITTEN

-- the digits of a number, the highest first
abbrev pub decimal : ℕ → List ℕ
decimal zero = 48 ∷ []
decimal (suc n) = map (λ d. 48 + d) (digits_of 10 (suc n))

-- the digits of a number's size, after a minus where it is below 0
abbrev pub signed_text : ℤ → List ℕ
signed_text (pos n) = decimal n
signed_text (negsuc n) = 45 ∷ decimal (suc n)

-- what a number of at most the longest can be
abbrev pub Short : ℕ → Type 0
Short n = n < 10 ^ longest

-- a number that was read is short
abbrev pub Small : Option ℕ → Type 0
Small None = Unit {0}
Small (Some n) = Short n

-- a signed number that was read is short in size
abbrev pub SmallSize : Option ℤ → Type 0
SmallSize None = Unit {0}
SmallSize (Some z) = Short (unsigned_abs z)

-- each short number is read from the text that writes it, and from no other text
pub record NumbersStand : Type 0 where
  pub written : (n : ℕ) → Short n → plain_of (decimal n) ≡ Some n
  pub read : (bs : List ℕ) (n : ℕ) → plain_of bs ≡ Some n → (bs ≡ decimal n) × Short n
  pub signed_written : (z : ℤ) → Short (unsigned_abs z) → signed_of (signed_text z) ≡ Some z
  pub signed_read : (bs : List ℕ) (z : ℤ) → signed_of bs ≡ Some z → (bs ≡ signed_text z) × Short (unsigned_abs z)

-- PARTS OF A TEXT

-- the first part and those after it: a text has one part more than separators
abbrev pub Parts : Type 0
Parts = List ℕ × List (List ℕ)

-- one part more in front
abbrev pub more : List ℕ → Parts → Parts
more l p = (l, p.0 ∷ p.1)

-- the parts of a text between its separators
abbrev pub parted : ℕ → List ℕ → Parts
parted sep [] = ([], [])
parted sep (c ∷ cs) = cond (c == sep) (more [] (parted sep cs)) (c ∷ (parted sep cs).0, (parted sep cs).1)

-- the fields of a line, between commas (',' is 44)
abbrev pub fields_of : List ℕ → List (List ℕ)
fields_of t = (parted 44 t).0 ∷ (parted 44 t).1

-- texts, each after a separator
abbrev pub joined_by : ℕ → List (List ℕ) → List ℕ
joined_by sep [] = []
joined_by sep (f ∷ fs) = sep ∷ (f ++ joined_by sep fs)

-- the text of these parts
abbrev pub glued : ℕ → Parts → List ℕ
glued sep p = p.0 ++ joined_by sep p.1

-- a byte is not the separator
abbrev pub unlike : ℕ → ℕ → Bool
unlike sep c = not (c == sep)

-- the first separator stands at place n, or n is the length of a text that has none
pub record FirstAt (sep : ℕ) (text : List ℕ) (n : ℕ) : Type 0 where
  pub whole : n ≡ length text → parted sep text ≡ (text, [])
  pub cut : n < length text → parted sep text ≡ more (between 0 n text) (parted sep (between (n + 1) (length text) text))

-- a pair is the first part and the text after its separator; none is a text that is all one part
abbrev pub SplitIs : ℕ → List ℕ → Option (Bor (List ℕ) × Bor (List ℕ)) → Type 0
SplitIs sep bs None = parted sep bs ≡ (bs, [])
SplitIs sep bs (Some p) = (parted sep bs ≡ more p.0.now (parted sep p.1.now)) × (length p.1.now < length bs)

-- what follows a key, where a text begins with it
abbrev pub after : List ℕ → List ℕ → Option (List ℕ)
after [] l = Some l
after (k ∷ ks) [] = None
after (k ∷ ks) (c ∷ cs) = cond (c == k) (after ks cs) None

-- the bytes that a reference points to, where there is one
abbrev pub seen : Option (Bor (List ℕ)) → Option (List ℕ)
seen None = None
seen (Some r) = Some r.now

-- two texts have the same bytes
abbrev pub same : List ℕ → List ℕ → Bool
same [] [] = true
same [] (c ∷ cs) = false
same (b ∷ bs) [] = false
same (b ∷ bs) (c ∷ cs) = b == c && same bs cs

-- TEXT LAID OVER BYTES

-- all of the text has room from the place on
abbrev pub fits : List ℕ → ℕ → List ℕ → Bool
fits out at text = nat_le (at + length text) (length out)

-- the bytes with the text over them from the place on, or unchanged where it does not fit
abbrev pub laid : List ℕ → ℕ → List ℕ → List ℕ
laid out at text = cond (fits out at text) ((take at out ++ text) ++ drop (at + length text) out) out

-- the place behind the text, or the same place where it does not fit
abbrev pub behind : List ℕ → ℕ → List ℕ → ℕ
behind out at text = cond (fits out at text) (at + length text) at
