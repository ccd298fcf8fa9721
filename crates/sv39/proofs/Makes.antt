-- What a set-up makes. Assumes nothing.
use Rattle.std.proofs.Common.{◌≡◌, ℕ, zero, suc, ◌+◌, ◌-◌, ◌*◌, ◌/◌, ◌%◌, ◌<◌, ◌≤◌, cond, ◌==◌, List, length, sym, refl, ap, ◌∙◌, subst, arith}
use Rattle.std.proofs.lemmas.Bool.Decides.{nat_tests}
use Rattle.space.specs.Frames.{Pool, pool, Released}
use Rattle.sv39.specs.declared.figures.Figures.{Figures}
use Rattle.sv39.specs.Tables.{first, count, word, slot, mapping_in, page_at, leaf_for, Tables}
use Rattle.sv39.specs.Writes.{Built}
use Rattle.sv39.specs.Invariants.{Fine, Kept}
use Rattle.sv39.specs.Setup.{LawfulFigures}
use Rattle.sv39.specs.declared.paging.Sv39.{Sv39}
use Rattle.sv39.specs.Spaces.{memory_of, Made}
use Rattle.sv39.proofs.Pages.{page_inside}
use Rattle.sv39.proofs.Keeps.{kept_empty, none_left}

-- What is built of lawful figures is kept.
pub kept_built : (g : Figures) (m m' : List ℕ) (x y : Pool) → LawfulFigures (length m) g (length x.entries) → x.total ≡ length m / 4096 - (g.leaves + 2) → Built g g.leaves m m' → Released x y → Kept g m' y
kept_built g m m' x y a total b released =
    let whole = a.whole in
    let tables = a.tables in
    let long = b.apart.long in
    kept_empty g m' x y a.window.0 a.window.2 a.aligned (omega (arith, whole.1)) (omega (arith, a.room))
    (λ live. (omega (arith, whole.0), omega (arith, a.reach)))
    (λ i z. b.root i z.1) (λ i z. b.middle i z.1) b.slots released

-- A space without pages and frames.
pub kept_void : (g : Figures) (m : List ℕ) (x y : Pool) → g.base ≡ 0 → g.gigabyte ≡ 0 → g.leaves ≡ 0 → x.total ≡ 0 → Released x y → Kept g m y
kept_void g m x y base gigabyte leaves total released =
    kept_empty g m x y (omega arith) (omega arith) (ap (λ n. n % 4096) base) (omega arith) (omega arith)
    (λ live. absurd (omega arith)) (λ i z. absurd (omega (arith, z.0))) (λ i z. absurd (omega (arith, z.0))) (λ j h. absurd (omega arith)) released

-- The leaf table entry of a page is the one that its mapping has.
leaf_is : (g : Figures) (total e : ℕ) → (0 < e → Fine g total e) → e ≡ leaf_for g (mapping_in g e)
leaf_is g total zero fine = refl
leaf_is g total (suc e) fine = (fine (omega arith)).0

-- Behind tables 0 and 1.
third : (t a b c : ℕ) → 2 ≤ t → cond (t == 0) a (cond (t == 1) b c) ≡ c
third t a b c h = grind (arith, nat_tests)

-- Every entry of every table.
pub tabled : (g : Figures) (m : List ℕ) (x : Pool) → Kept g m x → 0 < g.leaves → Tables g m (page_at g m)
tabled g m x k live zero i lt li = let r = k.rooted i (live, li) in grind (arith, nat_tests)
tabled g m x k live (suc zero) i lt li = let r = k.middled i (live, li) in grind (arith, nat_tests)
tabled g m x k live (suc (suc l)) i lt li =
    let at : 512 * suc (suc l) + i ≡ 1024 + (512 * l + i) = omega arith in
    let back : first g + (512 * l + i) - first g ≡ 512 * l + i = omega arith in
    let page : page_at g m (first g + (512 * l + i)) ≡ mapping_in g (slot m (512 * l + i)) =
    page_inside g m (first g + (512 * l + i)) (omega arith) (omega arith) ∙ ap (λ n. mapping_in g (slot m n)) back in
    ap (word m) at ∙ leaf_is g x.total (slot m (512 * l + i)) (λ s. k.filled (512 * l + i) (omega arith, s)) ∙ ap (leaf_for g) (sym page)
    ∙ ap (λ n. leaf_for g (page_at g m (first g + (512 * n + i)))) (let d : l ≡ suc (suc l) - 2 = omega arith in d)
    ∙ sym (third (suc (suc l)) _ _ _ (omega arith))

-- What is made of lawful figures.
pub made : (g : Figures) (t : Sv39) (m : List ℕ) (x : Pool) → LawfulFigures (length m) g (length x.entries) → x.total ≡ length m / 4096 - (g.leaves + 2) → t.figures ≡ g → Built g g.leaves m (memory_of t) → Released x (pool t.frames)
    → Made (length m) g t
made g t m x a total is b released = record {
  figures = is;
  empty = record {
    first = ap first is;
    count = ap count is;
    frames = released.total ∙ total;
    page = λ q. ap (λ h. page_at h (memory_of t) q) is ∙ none_left g (memory_of t) b.slots q;
  };
  tables = tabled t.figures (memory_of t) (pool t.frames) t.kept (subst (λ h. 0 < h.leaves) (sym is) (omega (arith, a.window.1)));
}
