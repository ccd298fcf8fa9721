-- Page ranges. Assumes nothing.
use Rattle.std.specs.Prelude.{ℕ, ◌+◌, ◌<◌, ◌≤◌, ◌⊎◌, List, sum_by, [], ◌∷◌, Some, None, Option}
use Rattle.image.specs.declared.ranges.PageRange.{PageRange}

-- The range covers the page.
pub record Covers (r : PageRange) (page : ℕ) : Type 0 where
  pub from : r.first ≤ page
  pub to : page < r.first + r.count

-- Some range of the list covers the page.
abbrev pub Covered : List PageRange → ℕ → Type 0
Covered [] page = ⊥
Covered (r ∷ rs) page = Covers r page ⊎ Covered rs page

-- The page lies outside the window of `count` pages from `first` on.
abbrev pub Outside : ℕ → ℕ → ℕ → Type 0
Outside first count page = (page < first) ⊎ (first + count ≤ page)

-- Every range of the list begins at or above the page n.
abbrev pub Above : ℕ → List PageRange → Type 0
Above n [] = Unit {0}
Above n (r ∷ rs) = (n ≤ r.first) × Above n rs

-- Each range begins behind the end of all before it.
abbrev pub Ascending : List PageRange → Type 0
Ascending [] = Unit {0}
Ascending (r ∷ rs) = Above (r.first + r.count) rs × Ascending rs

-- How many pages the ranges have, each range counted by itself.
abbrev pub page_count : List PageRange → ℕ
page_count ranges = sum_by (λ r. r.count) ranges

-- page is the lowest of which P holds.
pub record Least (P : ℕ → Type 0) (page : ℕ) : Type 0 where
  pub holds : P page
  pub least : (q : ℕ) → q < page → P q → ⊥

-- What a search for the lowest page of which P holds answers: that page, or none where P holds of no page.
abbrev pub LowestOf : (ℕ → Type 0) → Option ℕ → Type 0
LowestOf P None = (page : ℕ) → P page → ⊥
LowestOf P (Some page) = Least P page
