-- What the rows of a strike come to, member by member. Assumes nothing.
use Rattle.std.proofs.Common.{◌≡◌, ℕ, ◌+◌, ◌-◌, ◌<◌, ◌≤◌, true, false, cond, List, map, length, get_or, sym, refl, ap, ◌∙◌, subst, ⊎_elim, arith}
use Rattle.std.proofs.lemmas.List.FromFn.{get_or-map-range_with_len, length-map-range_with_len}
use Rattle.std.proofs.lemmas.List.{length-map}
use Rattle.std.proofs.lemmas.Bool.{cases_Bool, cond-true, cond-false}
use Rattle.terms.specs.Limits.{last_member}
use Rattle.terms.specs.Sums.{sum_to}
use Rattle.terms.proofs.Adding.{sum_to_const, sum_to_same}
use Rattle.sizing.specs.Lists.{sum_of}
use Rattle.sizing.specs.Marks.{Marking}
use Rattle.sizing.specs.Sizes.{size_at_most_sum}
use Rattle.asks.specs.Bounds.{WithinBounds, most_asked}
use Rattle.asks.specs.Steps.{ask_at, asks_of}
use Rattle.asks.proofs.Bounding.{bounds_kept}
use Rattle.tables.specs.Book.{IsMember}
use Rattle.strike.specs.declared.rows.Row.{Row}
use Rattle.strike.specs.Members.{Members, ask_of, fund_of, means_of, minimums_of, over_members, over_sharers, how_many, place_of, sharers}
use Rattle.strike.specs.Rows.{Told, ask_in, unasked}
use Rattle.strike.specs.Promises.{AsksBounded}
use Rattle.strike.proofs.Listing.{by_places, column_at, count, listed_at}

module _ (x : Members) where
  -- a member by how many come before it
  back : (m : ℕ) → IsMember m → m - 1 + 1 ≡ m
  back m im = omega (arith, im.0)

  shares_back : (m : ℕ) → IsMember m → x.shares m ≡ true → x.shares (m - 1 + 1) ≡ true
  shares_back m im h = subst (λ (k : ℕ). x.shares k ≡ true) (sym (back m im)) h

  pub place_within : (m : ℕ) → IsMember m → x.shares m ≡ true → place_of x m < length (sharers x)
  place_within m im h = (listed_at x.shares last_member (m - 1) (omega (arith, im.0, im.1)) (shares_back m im h)).0

  -- a column at the place of a member that shares
  pub column : (f : ℕ → ℕ) (m : ℕ) → IsMember m → x.shares m ≡ true → get_or (map f (sharers x)) (place_of x m) 0 ≡ f m
  column f m im h = column_at x.shares f last_member (m - 1) (omega (arith, im.0, im.1)) (shares_back m im h) ∙ ap f (back m im)

  -- a sum over the members that share, of what is told by place
  over_places : (g f : ℕ → ℕ) → ((m : ℕ) → IsMember m → x.shares m ≡ true → g m ≡ f (place_of x m)) → over_sharers x g ≡ sum_to (length (sharers x)) f
  over_places g f same =
      sum_to_same last_member (λ k. cond (x.shares (k + 1)) (g (k + 1)) 0) (λ k. cond (x.shares (k + 1)) (f (count x.shares k)) 0)
      (λ k l. ⊎_elim
      (λ (h : x.shares (k + 1) ≡ true).
      let at : k + 1 - 1 ≡ k = omega arith in
      ap (λ (v : ℕ). cond (x.shares (k + 1)) v 0) (same (k + 1) (omega arith, omega arith) h ∙ ap (λ (j : ℕ). f (count x.shares j)) at))
      (λ (h : x.shares (k + 1) ≡ false). cond-false (x.shares (k + 1)) _ 0 h ∙ sym (cond-false (x.shares (k + 1)) _ 0 h))
      (cases_Bool (x.shares (k + 1))))
      ∙ by_places x.shares f last_member

  pub minimums_sum : over_sharers x x.minimum ≡ sum_of (minimums_of x)
  minimums_sum =
      over_places x.minimum (λ k. get_or (minimums_of x) k 0) (λ m im h. sym (column x.minimum m im h))
      ∙ ap (λ (n : ℕ). sum_to n (λ k. get_or (minimums_of x) k 0)) (sym (length-map (sharers x) x.minimum))

  pub how_many_is : how_many x ≡ length (sharers x)
  how_many_is = over_places (λ _. 1) (λ _. 1) (λ m im h. refl) ∙ sum_to_const (length (sharers x)) 1 ∙ omega arith

  module _ (marking : Marking) (size : ℕ) (rows : List Row) (told : Told x marking size rows) where
    ask_yes : (m : ℕ) → IsMember m → x.shares m ≡ true → ask_in rows m ≡ ask_of x marking m
    ask_yes m im h = ap (λ (r : Row). r.ask) (told.each m im ∙ cond-true (x.shares m) _ unasked h)

    ask_no : (m : ℕ) → IsMember m → x.shares m ≡ false → ask_in rows m ≡ 0
    ask_no m im h = ap (λ (r : Row). r.ask) (told.each m im ∙ cond-false (x.shares m) _ unasked h)

    asks : List ℕ
    asks = asks_of (fund_of x marking) (minimums_of x) (means_of x)

    n_is : length (means_of x) ≡ length (sharers x)
    n_is = length-map (sharers x) x.mean

    asks_at : (k : ℕ) → k < length (means_of x) → get_or asks k 0 ≡ ask_at (fund_of x marking) (minimums_of x) (means_of x) k
    unfolding asks
    asks_at k l = get_or-map-range_with_len (ask_at (fund_of x marking) (minimums_of x) (means_of x)) 0 (length (means_of x)) k k 0 l (omega arith)

    asks_long : length asks ≡ length (sharers x)
    unfolding asks
    asks_long = length-map-range_with_len (ask_at (fund_of x marking) (minimums_of x) (means_of x)) 0 (length (means_of x)) ∙ n_is

    is_ask : (m : ℕ) → IsMember m → x.shares m ≡ true → ask_in rows m ≡ get_or asks (place_of x m) 0
    is_ask m im h = ask_yes m im h ∙ sym (asks_at (place_of x m) (omega (arith, n_is, place_within m im h)))

    -- who does not share adds nothing
    only_sharers : over_members (ask_in rows) ≡ over_sharers x (ask_in rows)
    only_sharers = sum_to_same last_member (λ k. ask_in rows (k + 1)) (λ k. cond (x.shares (k + 1)) (ask_in rows (k + 1)) 0)
        (λ k l. ⊎_elim
        (λ (h : x.shares (k + 1) ≡ true). sym (cond-true (x.shares (k + 1)) (ask_in rows (k + 1)) 0 h))
        (λ (h : x.shares (k + 1) ≡ false). ask_no (k + 1) (omega arith, omega arith) h ∙ sym (cond-false (x.shares (k + 1)) (ask_in rows (k + 1)) 0 h))
        (cases_Bool (x.shares (k + 1))))

    asks_sum : over_members (ask_in rows) ≡ sum_of asks
    asks_sum = only_sharers ∙ over_places (ask_in rows) (λ k. get_or asks k 0) is_ask ∙ ap (λ (n : ℕ). sum_to n (λ k. get_or asks k 0)) (sym asks_long)

    module _ (some : 1 ≤ length (sharers x)) (covers : (k : ℕ) → k < length (means_of x) → get_or (means_of x) k 0 ≤ fund_of x marking) where
      kept : WithinBounds (fund_of x marking) (minimums_of x) (means_of x) asks
      unfolding asks
      kept = bounds_kept (fund_of x marking) (minimums_of x) (means_of x) (length-map (sharers x) x.minimum ∙ sym n_is) (omega (arith, n_is)) (size_at_most_sum (marking (means_of x)) (means_of x))

      within : (m : ℕ) → IsMember m → x.shares m ≡ true → place_of x m < length (means_of x)
      within m im h = omega (arith, n_is, place_within m im h)

      pub asks_bounded : AsksBounded x size rows
      asks_bounded = record {
        least = λ m im h. omega (arith, is_ask m im h, kept.least (place_of x m) (within m im h), column x.minimum m im h);
        most = λ m im h.
            subst (λ (v : ℕ). ask_in rows m ≤ most_asked (x.minimum m) v) (column x.mean m im h)
            (subst (λ (v : ℕ). ask_in rows m ≤ most_asked v (get_or (means_of x) (place_of x m) 0)) (column x.minimum m im h)
            (subst (λ (v : ℕ). v ≤ most_asked (get_or (minimums_of x) (place_of x m) 0) (get_or (means_of x) (place_of x m) 0)) (sym (is_ask m im h)) (kept.most (place_of x m) (within m im h))));
        enough = omega (arith, told.fund, asks_sum, minimums_sum, kept.enough);
        near = omega (arith, told.fund, asks_sum, minimums_sum, how_many_is, n_is, kept.near);
        covers = λ m im h. omega (arith, told.fund, covers (place_of x m) (within m im h), column x.mean m im h);
      }
