-- A number is a power of two just where one of its binary digits is set. Assumes nothing.
use Rattle.std.proofs.Common.{◌≡◌, ℕ, zero, suc, ◌+◌, ◌*◌, ◌/◌, ◌%◌, ◌^◌, ◌<◌, ◌≤◌, ◌⊎◌, sym, refl, ap, ◌∙◌, inl, inr, pow-suc, arith, pow_pos}
use lib.Count.{ones, ones_step, ones_cat}
use Rattle.elf.specs.Segments.{PowerOfTwo}

pub power_ones : (n : ℕ) → PowerOfTwo n → ones n ≡ 1
unfolding ones
power_ones n (k, e) =
    let one : n ≡ 1 * 2 ^ k + 0 = omega arith in
    ap ones one ∙ ones_cat k 1 0 (pow_pos k)

no_ones : (d n : ℕ) → n ≤ d → ones n ≡ 0 → n ≡ 0
no_ones zero n le e = omega arith
no_ones (suc d) n le e =
    let s = ones_step n in
    let half : n / 2 ≤ d = omega arith in
    let none : n / 2 ≡ 0 = no_ones d (n / 2) half (omega arith) in
    omega arith

one_power : (d n : ℕ) → n ≤ d → ones n ≡ 1 → PowerOfTwo n
unfolding ones
one_power zero n le e =
    let z : n ≡ 0 = omega arith in
    let bad : ◌≡◌ {A = ℕ} 0 1 = sym (ap ones z) ∙ e in
    absurd (omega arith)
one_power (suc d) n le e =
    let s = ones_step n in
    let small : n % 2 < 2 = omega arith in
    let split : (n % 2 ≡ 0) ⊎ (n % 2 ≡ 1) = elim (n % 2) as (λ m. m < 2 → (m ≡ 0) ⊎ (m ≡ 1)) [ zero ↦ λ _. inl refl | suc m ↦ λ h. inr (omega arith) ] small in
    elim split [
      | inl even ↦
          let half : n / 2 ≤ d = omega arith in
          let rest : PowerOfTwo (n / 2) = one_power d (n / 2) half (omega arith) in
          (suc rest.0, (let p = pow-suc 2 rest.0 in let q = rest.1 in omega arith))
      | inr odd ↦
          let none : n / 2 ≡ 0 = no_ones (n / 2) (n / 2) (omega arith) (omega arith) in
          (0, omega arith)
    ]

pub ones_power : (n : ℕ) → ones n ≡ 1 → PowerOfTwo n
ones_power n e = one_power n n (omega arith) e
