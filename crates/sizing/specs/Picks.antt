-- What is picked of a list, and that the two rules are lawful. Assumes nothing.
use Rattle.std.specs.Prelude.{◌≢◌, ◌⊎◌, ◌==◌, nat_eq, nat_lt, slice_index, slice_index_or}
use Rattle.std.proofs.Common.{◌≡◌, ℕ, zero, suc, ◌+◌, ◌<◌, ◌≤◌, Bool, true, false, cond, not, ◌&&◌, ◌||◌, eqb, ltb, List, [], ◌∷◌, length, get_or, drop, sym, refl, ap, ◌∙◌, ⊎_elim, add-zero, zero-add, arith}
use Rattle.std.proofs.lemmas.Bool.{and_cases, and_from, and_left, and_parts, and_right, cases_eq, cond-false, cond-true, cond_both, eq-eqb, eqb-false, eqb-true, le-ltb, lt-ltb, ltb-false, ltb-true, ne_eqb, not-false, not-true, not_from_false, not_from_true, or_left}
use Rattle.std.proofs.lemmas.List.{at_drop_more, get_or-take, length-take-le}
use Rattle.sizing.specs.Firsts.{Any, FirstLargest}
use Rattle.sizing.specs.Lists.{AreMeans}
use Rattle.sizing.specs.Marks.{Lawful, Marking}
use Rattle.sizing.specs.Meant.{means_of}
use Rattle.sizing.specs.declared.means.Means.{Means}
use Rattle.sizing.specs.Places.{cover_one, cover_two, first, is_in_list, pick, pick_from, second}
use Rattle.sizing.specs.Sizes.{marked_at_most_size}

-- a place that is not left out
abbrev pub But : ℕ → ℕ → Type 0
But skip k = k ≡ skip → ⊥

-- going along a list: b is the best of the places below i
module _ (means : List ℕ) (skip : ℕ) where
  at : ℕ → ℕ
  at k = get_or means k 0

  pick_first : (b v i : ℕ) (xs : List ℕ) → at b ≡ v → ((k : ℕ) → k < length xs → at (i + k) ≡ get_or xs k 0) → i + length xs ≡ length means → b < length means → But skip b → ((k : ℕ) → k < i → But skip k → at k ≤ at b) → ((k : ℕ) → k < b → But skip k → at k < at b) → FirstLargest means (But skip) (pick skip b v i xs)
  unfolding at
  pick_first b v i [] fb fx len w o le lt = record { within = w; one_of_them = o; largest = λ k l ne. le k (omega arith) ne; before = lt }
  pick_first b v i (x ∷ xs) fb fx len w o le lt =
      let fi : at i ≡ x = ap at (sym (add-zero i)) ∙ fx 0 (omega arith) in
      let next : (k : ℕ) → k < length xs → at (i + 1 + k) ≡ get_or xs k 0 = λ k h. ap at (omega arith) ∙ fx (suc k) (omega arith) in
      cond_both (not (eqb i skip) && ltb v x) (pick skip i x (i + 1) xs) (pick skip b v (i + 1) xs) (FirstLargest means (But skip))
      (λ t.
      let parts = and_parts (not (eqb i skip)) (ltb v x) t in
      let more : v < x = ltb-true v x parts.1 in
      pick_first i x (i + 1) xs fi next (omega arith) (omega arith) (eqb-false i skip (not-true (eqb i skip) parts.0))
      (λ k l ne. ⊎_elim (λ (e : k ≡ i). omega (arith, ap at e)) (λ d. omega (arith, le k (omega arith) ne)) (cases_eq k i))
      (λ k l ne. omega (arith, le k l ne)))
      (λ t.
      pick_first b v (i + 1) xs fb next (omega arith) w o
      (λ k l ne. ⊎_elim
      (λ (e : k ≡ i). ⊎_elim (λ u. absurd (ne (e ∙ eqb-true i skip (not-false (eqb i skip) u)))) (λ u. omega (arith, ltb-false v x u, ap at e)) (and_cases (not (eqb i skip)) (ltb v x) t))
      (λ d. le k (omega arith) ne)
      (cases_eq k i))
      lt)

  -- from a start that is not left out, with nothing before it but what is left out
  pub from_start : (b : ℕ) → b < length means → But skip b → ((k : ℕ) → k < b → But skip k → ⊥) → FirstLargest means (But skip) (pick skip b (get_or means b 0) 0 means)
  unfolding at
  from_start b w o none = pick_first b (get_or means b 0) 0 means refl (λ k l. ap (λ (j : ℕ). get_or means j 0) (zero-add k)) (omega arith) w o (λ k l ne. omega arith) (λ k l ne. absurd (none k l ne))

pub first_is : (means : List ℕ) → 0 < length means → FirstLargest means Any (first means)
first_is means some =
    let r = from_start means (length means) 0 some (λ e. omega arith) (λ k l ne. omega arith) in
    record { within = r.within; one_of_them = tt; largest = λ k l _. r.largest k l (λ e. omega arith); before = λ k l _. r.before k l (λ e. omega (arith, r.within)) }

-- a rule is lawful that marks nothing past the list, and the first largest
marks_first : (marking : Marking) → ((ms : List ℕ) (k : ℕ) → length ms ≤ k → marking ms k ≡ false) → ((ms : List ℕ) → first ms < length ms → marking ms (first ms) ≡ true) → Lawful marking
marks_first marking none marks = record {
  past = λ ms are k l. none ms k l;
  largest = λ ms are k l.
      let r = first_is ms (omega arith) in
      omega (arith, r.largest k l tt, marked_at_most_size (marking ms) ms (first ms) r.within (marks ms r.within));
}

past_list : (ms : List ℕ) (k : ℕ) (b : Bool) → length ms ≤ k → (is_in_list ms k && b) ≡ false
past_list ms k b l = and_left (is_in_list ms k) b (le-ltb k (length ms) l)

in_list : (ms : List ℕ) (k : ℕ) (b : Bool) → k < length ms → b ≡ true → (is_in_list ms k && b) ≡ true
in_list ms k b l h = and_from (is_in_list ms k) b (lt-ltb k (length ms) l) h

pub lawful_one : Lawful cover_one
lawful_one = marks_first cover_one (λ ms k l. past_list ms k (eqb k (first ms)) l) (λ ms l. in_list ms (first ms) (eqb (first ms) (first ms)) l (eq-eqb (first ms) (first ms) refl))

pub lawful_two : Lawful cover_two
lawful_two = marks_first cover_two (λ ms k l. past_list ms k (eqb k (first ms) || eqb k (second ms)) l) (λ ms l. in_list ms (first ms) (eqb (first ms) (first ms) || eqb (first ms) (second ms)) l (or_left (eqb (first ms) (first ms)) (eqb (first ms) (second ms)) (eq-eqb (first ms) (first ms) refl)))

-- for whoever writes a rule: what is known of a place that is picked, of a turn of the loop that picks, and of what the two rules answer
each : (x : ℕ) (xs : List ℕ) (m : ℕ) → x ≤ m → ((k : ℕ) → k < length xs → slice_index xs k ≤ m) → (k : ℕ) → k < length (x ∷ xs) → slice_index (x ∷ xs) k ≤ m
each x xs m h t zero l = h
each x xs m h t (suc k) l = t k (omega arith)

pub pick_within : (skip b v i : ℕ) (xs : List ℕ) (n : ℕ) → b < n → i + length xs ≤ n → pick skip b v i xs < n
pick_within skip b v i [] n h l = h
pick_within skip b v i (x ∷ xs) n h l =
    cond_both (not (i == skip) && nat_lt v x) (pick skip i x (i + 1) xs) (pick skip b v (i + 1) xs) (λ r. r < n)
    (λ _. pick_within skip i x (i + 1) xs n (omega arith) (omega arith))
    (λ _. pick_within skip b v (i + 1) xs n h (omega arith))

-- it is at least as large as each
pub pick_best : (f : ℕ → ℕ) (skip b v i : ℕ) (xs : List ℕ) → f b ≡ v → ((k : ℕ) → k < length xs → f (i + k) ≡ slice_index xs k) → i + length xs ≤ skip → (v ≤ f (pick skip b v i xs)) × ((k : ℕ) → k < length xs → slice_index xs k ≤ f (pick skip b v i xs))
pick_best f skip b v i [] fb fx l = (omega (arith, fb), λ k h. omega arith)
pick_best f skip b v i (x ∷ xs) fb fx l =
    let fi : f i ≡ x = ap f (sym (add-zero i)) ∙ fx 0 (omega arith) in
    let next : (k : ℕ) → k < length xs → f (i + 1 + k) ≡ slice_index_or xs k 0 = λ k h. ap f (omega arith) ∙ fx (suc k) (omega arith) in
    cond_both (not (i == skip) && nat_lt v x) (pick skip i x (i + 1) xs) (pick skip b v (i + 1) xs)
    (λ r. (v ≤ f r) × ((k : ℕ) → k < length (x ∷ xs) → slice_index (x ∷ xs) k ≤ f r))
    (λ t.
    let rest = pick_best f skip i x (i + 1) xs fi next (omega arith) in
    let up : v < x = ltb-true v x (and_parts (not (i == skip)) (nat_lt v x) t).1 in
    (omega (arith, rest.0), each x xs _ rest.0 rest.1))
    (λ t.
    let rest = pick_best f skip b v (i + 1) xs fb next (omega arith) in
    let down : x ≤ v = ⊎_elim (λ e. let same : i ≡ skip = eqb-true i skip (not-false (i == skip) e) in omega arith) (λ e. ltb-false v x e) (and_cases (not (i == skip)) (nat_lt v x) t) in
    (rest.0, each x xs _ (omega (arith, rest.0)) rest.1))

pub first_within : (ms : List ℕ) → 0 < length ms → first ms < length ms
first_within ms l = pick_within (length ms) 0 (slice_index ms 0) 0 ms (length ms) l (omega arith)

pub first_largest : (ms : List ℕ) (k : ℕ) → k < length ms → slice_index ms k ≤ slice_index ms (first ms)
first_largest ms = (pick_best (λ k. slice_index ms k) (length ms) 0 (slice_index ms 0) 0 ms refl (λ k l. ap (λ (j : ℕ). slice_index ms j) (zero-add k)) (omega arith)).1

pub means_of_long : (m : Means) → length (means_of m) ≡ m.count
means_of_long m = length-take-le m.count m.list (omega (arith, m.long, m.bounded.1))

pub are_means : (m : Means) → AreMeans (means_of m)
are_means m =
    let e = means_of_long m in
    (omega (arith, e, m.bounded.0), omega (arith, e, m.bounded.1), λ k l. let lt : k < m.count = omega (arith, e) in omega (arith, get_or-take m.count m.list k 0 lt, m.bounded.2 k lt))

-- a turn of the loop that picks
pub pick_takes : (skip b v i : ℕ) (ms : List ℕ) → i < length ms → (i ≢ skip) → v < slice_index ms i → pick skip b v i (drop i ms) ≡ pick skip i (slice_index ms i) (i + 1) (drop (i + 1) ms)
pick_takes skip b v i ms l ne up =
    at_drop_more (pick skip b v i) ms i 0 l
    ∙ cond-true (not (i == skip) && nat_lt v (slice_index ms i)) _ _ (and_from (not (i == skip)) (nat_lt v (slice_index ms i)) (not_from_false (i == skip) (ne_eqb i skip ne)) (lt-ltb v (slice_index ms i) up))

pub pick_keeps : (skip b v i : ℕ) (ms : List ℕ) → i < length ms → (i ≡ skip) ⊎ (slice_index ms i ≤ v) → pick skip b v i (drop i ms) ≡ pick skip b v (i + 1) (drop (i + 1) ms)
pick_keeps skip b v i ms l why =
    at_drop_more (pick skip b v i) ms i 0 l
    ∙ cond-false (not (i == skip) && nat_lt v (slice_index ms i)) _ _
    (⊎_elim (λ e. and_left (not (i == skip)) (nat_lt v (slice_index ms i)) (not_from_true (i == skip) (eq-eqb i skip e))) (λ d. and_right (not (i == skip)) (nat_lt v (slice_index ms i)) (le-ltb v (slice_index ms i) d)) why)

-- what the two rules answer
module _ (ms : List ℕ) (n place : ℕ) (long : length ms ≡ n) where
  pub out : (b : Bool) → n ≤ place → false ≡ (is_in_list ms place && b)
  out b l = sym (past_list ms place b (omega arith))

  within : (b : Bool) → place < n → b ≡ (is_in_list ms place && b)
  within b l = sym (ap (λ (z : Bool). z && b) (lt-ltb place (length ms) (omega arith)))

  pub one_in : (b : ℕ) → place < n → b ≡ pick_from n 0 ms → (place == b) ≡ cover_one ms place
  one_in b l h = ap (nat_eq place) (h ∙ ap (λ (m : ℕ). pick_from m 0 ms) (sym long)) ∙ within (place == first ms) l

  pub two_first : (f : ℕ) → place < n → f ≡ pick_from n 0 ms → place ≡ f → true ≡ cover_two ms place
  two_first f l h e =
      sym (or_left (place == first ms) (place == second ms) (eq-eqb place (first ms) (e ∙ h ∙ ap (λ (m : ℕ). pick_from m 0 ms) (sym long))))
      ∙ within (place == first ms || place == second ms) l

  pub two_second : (f s b : ℕ) → place < n → f ≡ pick_from n 0 ms → (place ≢ f) → s ≡ cond (f == 0) 1 0 → b ≡ pick_from f s ms → (place == b) ≡ cover_two ms place
  two_second f s b l h ne start picked =
      let is : f ≡ first ms = h ∙ ap (λ (m : ℕ). pick_from m 0 ms) (sym long) in
      let sec : b ≡ second ms = picked ∙ ap (λ (m : ℕ). pick_from f m ms) start ∙ ap (λ (m : ℕ). pick_from m (cond (m == 0) 1 0) ms) is in
      ap (nat_eq place) sec
      ∙ ap (λ (z : Bool). z || place == second ms) (sym (ne_eqb place (first ms) (λ e. ne (e ∙ sym is))))
      ∙ within (place == first ms || place == second ms) l
