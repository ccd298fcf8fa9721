-- What stays true of a TLB's entries. Assumes nothing.
use Rattle.std.proofs.Common.{◌≡◌, ℕ, ◌%◌, List, get_or, set, Some, None, Ok, Err, Option, Result, sym, ap, ◌∙◌, arith, lit<, get_or-set_other}
use Rattle.std.proofs.lemmas.Grind.{common_steps}
use Rattle.faults.specs.declared.fault.Fault.{Fault}
use Rattle.space.specs.declared.tlb.Entry.{Entry}
use Rattle.space.specs.Meaning.{Meaning}
use Rattle.space.specs.Calls.{Maps, Unmaps}
use Rattle.space.specs.Cache.{Placed, Agrees, OneChanged}

-- After a mapping, which meets no entry.
pub agrees_map : (m n : Meaning) (es : List (Option Entry)) (p rights : ℕ) (r : Result (Unit {0}) Fault) → Maps p rights r m n → Agrees m es → Agrees n es
agrees_map m n es p rights (Ok u) (clear, d) agrees k x e =
    d.page x.page (λ at. clear.1.0 0 (lit< tt) (x.mapping, ap m.page (sym at) ∙ agrees k x e)) ∙ agrees k x e
agrees_map m n es p rights (Err f) (first, same) agrees k x e = ap (λ (z : Meaning). z.page x.page) same ∙ agrees k x e

-- An entry of a list with one place emptied is one of the list, at another place.
emptied : (es : List (Option Entry)) (k j : ℕ) (x : Entry) → get_or (set es k None) j None ≡ Some x → (get_or es j None ≡ Some x) × (j ≡ k → ⊥)
emptied es k j x e = grind (arith, common_steps)

pub placed_emptied : (es : List (Option Entry)) (k : ℕ) → Placed es → Placed (set es k None)
placed_emptied es k placed j x e = placed j x (emptied es k j x e).0

-- After an unmapping, with the page's place emptied.
pub agrees_unmap : (m n : Meaning) (es : List (Option Entry)) (p : ℕ) (r : Result (Unit {0}) Fault) → Unmaps p r m n → Placed es → Agrees m es → Agrees n (set es (p % 16) None)
agrees_unmap m n es p (Ok u) (clear, d) placed agrees k x e =
    let i = emptied es (p % 16) k x e in
    d.page x.page (λ at. i.1 (sym (placed k x i.0) ∙ ap (λ (q : ℕ). q % 16) at)) ∙ agrees k x i.0
agrees_unmap m n es p (Err f) (first, same) placed agrees k x e =
    ap (λ (z : Meaning). z.page x.page) same ∙ agrees k x (emptied es (p % 16) k x e).0

-- Only the entry that is written changes.
pub one_written : (es : List (Option Entry)) (k : ℕ) (x : Option Entry) → OneChanged es (set es k x)
one_written es k x = (k, λ j apart. get_or-set_other es k j x None apart)
