-- Lists of runs in order, taken apart and put together. Assumes nothing.
use Rattle.std.proofs.Common.{◌≡◌, true, ℕ, zero, suc, ◌+◌, ◌<◌, ◌≤◌, List, [], ◌∷◌, ◌++◌, take, drop, set, length, Some, refl, ap, ◌∙◌, arith}
use Rattle.std.specs.List.{slice_get}
use Rattle.std.proofs.lemmas.List.{set_split, length-take}
use Rattle.std.proofs.lemmas.Option.{slice_get_within}
use Rattle.regions.specs.declared.run.Run.{Run}
use Rattle.regions.specs.declared.runs.Runs.{Runs}
use Rattle.regions.specs.Runs.{in_order, in_use}
use Rattle.regions.proofs.Mappings.{head, ascending_more, ascending_none, ends}

-- Where a list of runs ends that begins behind page a.
abbrev pub last : ℕ → List Run → ℕ
last a [] = a
last a (r ∷ rs) = last (r.first + r.count) rs

pub order_parts : (a b : ℕ) (rs ss : List Run) → in_order a b (rs ++ ss) ≡ true → (in_order a (last a rs) rs ≡ true) × (in_order (last a rs) b ss ≡ true)
order_parts a b [] ss o = (ascending_none a a (omega arith), o)
order_parts a b (r ∷ rs) ss o =
    let h = head a b r (rs ++ ss) o in
    let p = order_parts (r.first + r.count) b rs ss h.rest in
    (ascending_more a (last (r.first + r.count) rs) r rs h.low h.some p.0, p.1)

pub order_joined : (a c b : ℕ) (rs ss : List Run) → in_order a c rs ≡ true → in_order (last a rs) b ss ≡ true → in_order a b (rs ++ ss) ≡ true
order_joined a c b [] ss o f = f
order_joined a c b (r ∷ rs) ss o f =
    let h = head a c r rs o in
    ascending_more a b r (rs ++ ss) h.low h.some (order_joined (r.first + r.count) c b rs ss h.rest f)

-- The same from another page on, where the first run lies behind it.
pub order_from : (a c b : ℕ) (ss : List Run) → in_order a b ss ≡ true → c ≤ b → ((s : Run) → slice_get ss 0 ≡ Some s → c ≤ s.first) → in_order c b ss ≡ true
order_from a c b [] o l low = ascending_none c b l
order_from a c b (s ∷ ss) o l low = let h = head a b s ss o in ascending_more c b s ss (low s refl) h.some h.rest

-- From an earlier page on.
pub order_earlier : (a c b : ℕ) (ss : List Run) → in_order a b ss ≡ true → c ≤ a → in_order c b ss ≡ true
order_earlier a c b [] o l = let e = ends a b o in ascending_none c b (omega arith)
order_earlier a c b (s ∷ ss) o l = let h = head a b s ss o in ascending_more c b s ss (omega (arith, h.low)) h.some h.rest

-- Runs that all end by page p end by p.
pub last_below : (a p : ℕ) (rs : List Run) → a ≤ p → ((i : ℕ) (r : Run) → slice_get rs i ≡ Some r → r.first + r.count ≤ p) → last a rs ≤ p
last_below a p [] l all = l
last_below a p (r ∷ rs) l all = last_below (r.first + r.count) p rs (all 0 r refl) (λ i s e. all (suc i) s e)

-- What stands in the first k runs, and behind them.
pub get_taken : (k : ℕ) (rs : List Run) (i : ℕ) (r : Run) → slice_get (take k rs) i ≡ Some r → (i < k) × (slice_get rs i ≡ Some r)
get_taken zero rs i r e = cc
get_taken (suc k) [] i r e = cc
get_taken (suc k) (s ∷ rs) zero r e = (omega arith, e)
get_taken (suc k) (s ∷ rs) (suc i) r e = let g = get_taken k rs i r e in (omega arith, g.1)

pub get_dropped : (k : ℕ) (rs : List Run) (i : ℕ) → slice_get (drop k rs) i ≡ slice_get rs (k + i)
get_dropped zero rs i = ap (slice_get rs) (let e : i ≡ 0 + i = omega arith in e)
get_dropped (suc k) [] i = refl
get_dropped (suc k) (s ∷ rs) i = get_dropped k rs i ∙ ap (slice_get (s ∷ rs)) (let e : suc (k + i) ≡ suc k + i = omega arith in e)

-- A list is what stands before run k, that run, and what stands behind it.
pub split_at : (k : ℕ) (rs : List Run) (r : Run) → slice_get rs k ≡ Some r → rs ≡ take k rs ++ r ∷ drop (suc k) rs
split_at zero [] r e = cc
split_at zero (s ∷ rs) r e = let is : s ≡ r = cc in ap (λ t. t ∷ rs) is
split_at (suc k) [] r e = cc
split_at (suc k) (s ∷ rs) r e = ap (λ ts. s ∷ ts) (split_at k rs r e)

pub drop_at : (k : ℕ) (rs : List Run) (r : Run) → slice_get rs k ≡ Some r → drop k rs ≡ r ∷ drop (suc k) rs
drop_at zero [] r e = cc
drop_at zero (s ∷ rs) r e = let is : s ≡ r = cc in ap (λ t. t ∷ rs) is
drop_at (suc k) [] r e = cc
drop_at (suc k) (s ∷ rs) r e = drop_at k rs r e

pub take_suc : (k : ℕ) (rs : List Run) (r : Run) → slice_get rs k ≡ Some r → take (suc k) rs ≡ take k rs ++ r ∷ []
take_suc k [] r e = cc
take_suc zero (s ∷ rs) r e = let is : s ≡ r = cc in ap (λ t. t ∷ []) is
take_suc (suc k) (s ∷ rs) r e = ap (λ ts. s ∷ ts) (take_suc k rs r e)

-- Run k is written over.
pub written : (k : ℕ) (rs : List Run) (r s : Run) → slice_get rs k ≡ Some r → set rs k s ≡ take k rs ++ s ∷ drop (suc k) rs
written k rs r s at = set_split rs k s (slice_get_within rs k r at)

-- The list of the runs in use is as long as their number.
pub used_long : (x : Runs) → length (in_use x) ≡ x.used
used_long x = let l = length-take x.used x.buffer.now in let f = x.fits in omega arith
