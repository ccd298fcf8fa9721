-- Entries that are made, and the worked examples. Assumes nothing.
use Rattle.std.proofs.Common.{◌≡◌, ℕ, ◌+◌, ◌*◌, ◌^◌, ◌<◌, sym, refl, subst, inl, inr, ⊎_elim, arith, lit<}
use Rattle.sv39.specs.declared.entry.Entry.TheVariants.{Table, Leaf}
use Rattle.sv39.specs.Entries.{bit, Malformed, Says, pointer, leaf}
use Rattle.sv39.specs.Examples.{Encoded, Examples}

-- A valid readable leaf is well formed.
well_leaf : (e : ℕ) → bit 0 e ≡ 1 → bit 1 e ≡ 1 → e < 2 ^ 54 → Malformed e → ⊥
well_leaf e v r s bad = grind arith

-- A valid pointer without U, A and D is well formed.
well_pointer : (e : ℕ) → bit 0 e ≡ 1 → bit 2 e ≡ 0 → e < 2 ^ 54 → bit 4 e + bit 6 e + bit 7 e ≡ 0 → Malformed e → ⊥
well_pointer e v w s u bad = grind arith

pointer_says : (l page : ℕ) → page < 2 ^ 44 → Says l (pointer page) (Table page)
unfolding pointer
pointer_says l page h = (well_pointer (page * 2 ^ 10 + 1) (omega arith) (omega arith) (omega arith) (omega arith), omega arith, omega arith)

-- What the leaf of each lawful number says.
says_1 : (page : ℕ) → page < 2 ^ 44 → Says 0 (leaf page 1) (Leaf (record { page = page; rights = 1 }))
unfolding leaf
says_1 page h = (λ bad. grind arith, λ p. omega (arith, p), omega arith, omega arith, omega arith)

says_4 : (page : ℕ) → page < 2 ^ 44 → Says 0 (leaf page 4) (Leaf (record { page = page; rights = 4 }))
unfolding leaf
says_4 page h = (λ bad. grind arith, λ p. omega (arith, p), omega arith, omega arith, omega arith)

says_5 : (page : ℕ) → page < 2 ^ 44 → Says 0 (leaf page 5) (Leaf (record { page = page; rights = 5 }))
unfolding leaf
says_5 page h = (λ bad. grind arith, λ p. omega (arith, p), omega arith, omega arith, omega arith)

says_6 : (page : ℕ) → page < 2 ^ 44 → Says 0 (leaf page 6) (Leaf (record { page = page; rights = 6 }))
unfolding leaf
says_6 page h = (λ bad. grind arith, λ p. omega (arith, p), omega arith, omega arith, omega arith)

pub encoded : Encoded
encoded = record {
  pointer = pointer_says;
  leaf = λ page r h.
      let at : (n : ℕ) → Says 0 (leaf page n) (Leaf (record { page = page; rights = n })) → r ≡ n → Says 0 (leaf page r) (Leaf (record { page = page; rights = r })) =
      λ n s e. subst (λ k. Says 0 (leaf page k) (Leaf (record { page = page; rights = k }))) (sym e) s in
      ⊎_elim (at 1 (says_1 page h)) (⊎_elim (at 4 (says_4 page h)) (⊎_elim (at 5 (says_5 page h)) (at 6 (says_6 page h))));
}

pub examples : Examples
unfolding leaf pointer
examples = record {
  leaf_entry = refl;
  pointer_entry = refl;
  leaf = (well_leaf 0x200014d7 refl refl (lit< tt), λ p. omega (arith, p), refl, refl, refl);
  pointer = (well_pointer 0x20000401 refl refl (lit< tt) refl, refl, refl);
  no_valid = (lit< tt, inl (inl refl));
  no_read = (lit< tt, inl (inr (inl (refl, refl))));
  reserved = (lit< tt, inl (inr (inr (inl (omega arith)))));
  accessed = (lit< tt, inl (inr (inr (inr (refl, lit< tt)))));
  misplaced = (lit< tt, inr (λ p. omega (arith, p), λ p. omega (arith, p)));
  root = refl;
  middle = refl;
  last = refl;
}
