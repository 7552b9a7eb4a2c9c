-- The last of a window, and what it says of overlap: for u before v, u overlaps v exactly if v is at most the last
-- of u. From here on the theory speaks of `last` and not of the test.
-- Vocabulary: last.
-- Assumes nothing.
use Prim.Native.Nat.{ℕ, ◌≤◌, ◌<◌}
use mathlib.Core.{Bool.Bool, Bool.true, Bool.◌&&◌, Path.◌≡◌, Logic.◌⊎◌, Logic.inl, Logic.inr, Logic.⊎_elim, Logic.◌↔◌}
use native.Mathlib.Omega.{arith}
use lib.Dec.{ltb}
use borrow.Author.Tests.{ltb-true, lt-ltb}
use Rattle.sequences.specs.Search.{greatest}
use Rattle.sequences.proofs.Tests.{lt_or_ge, and_left, and_right, and_intro, true_false_absurd}
use Rattle.sequences.proofs.Search.{greatest_ge, greatest_cases}
use Rattle.interval_graph.specs.{Order.IntervalOrder, Tree.last}

-- Either the last of u overlaps u and lies behind it, below n, or it is u.
pub last_cases : (n : ℕ) (overlaps : ℕ → ℕ → Bool) (u : ℕ) →
    ((u < last n overlaps u) × (last n overlaps u < n) × (overlaps u (last n overlaps u) ≡ true)) ⊎ (last n overlaps u ≡ u)
unfolding last
last_cases n overlaps u =
    let z = greatest (λ w. ltb u w && overlaps u w) n u in
    ⊎_elim (λ h. inl (ltb-true u z (and_left (ltb u z) (overlaps u z) h.1), h.0, and_right (ltb u z) (overlaps u z) h.1))
    (λ h. inr h.0) (greatest_cases (λ w. ltb u w && overlaps u w) n u)

module _ {n : ℕ} {overlaps : ℕ → ℕ → Bool} (ok : IntervalOrder n overlaps) where
  -- The last of u is not before u.
  pub last_ge : (u : ℕ) → u ≤ last n overlaps u
  last_ge u = ⊎_elim (λ h. omega arith) (λ h. omega arith) (last_cases n overlaps u)

  -- The last of a window is a window.
  pub last_below : (u : ℕ) → u < n → last n overlaps u < n
  last_below u h = ⊎_elim (λ g. g.1) (λ g. omega arith) (last_cases n overlaps u)

  -- A later window that overlaps u is at most the last of u.
  pub overlap_last : (u v : ℕ) → u < v → v < n → overlaps u v ≡ true → v ≤ last n overlaps u
  unfolding last
  overlap_last u v h g t = greatest_ge (λ w. ltb u w && overlaps u w) n u v g (and_intro (ltb u v) (overlaps u v) (lt-ltb u v h) t)

  -- A later window at most the last of u overlaps u.
  pub last_overlap : (u v : ℕ) → u < v → v ≤ last n overlaps u → overlaps u v ≡ true
  last_overlap u v h g =
      ⊎_elim (λ c. ⊎_elim (λ b. ok.between u v (last n overlaps u) h b c.1 c.2)
      (λ b. let e : v ≡ last n overlaps u = omega arith in rw e c.2) (lt_or_ge v (last n overlaps u))) (λ c. absurd (omega arith))
      (last_cases n overlaps u)

  -- For u before v, they overlap exactly if v is at most the last of u.
  pub overlap_iff_last : (u v : ℕ) → u < v → v < n → (overlaps u v ≡ true) ↔ (v ≤ last n overlaps u)
  overlap_iff_last u v h g = (overlap_last u v h g, last_overlap u v h)

  -- A window that overlaps u is at most the last of u, on whichever side of u it stands.
  pub neighbour_le_last : (u v : ℕ) → v < n → overlaps u v ≡ true → v ≤ last n overlaps u
  neighbour_le_last u v g t = ⊎_elim (λ h. overlap_last u v h g t) (λ h. omega (arith, last_ge u)) (lt_or_ge u v)

  -- Two windows that overlap are two.
  pub overlap_distinct : (u v : ℕ) → overlaps u v ≡ true → u ≡ v → ⊥
  overlap_distinct u v t e = true_false_absurd _ (rw e at t) (ok.irreflexive v)
