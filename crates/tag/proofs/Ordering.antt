-- Laws of the number by which the code compares two tags: it holds their depths, ranks and lasts, the lesser is that of the tag that comes
-- first, and the rule is a sum over three comparisons.
-- Vocabulary: sum_rule, between_*, *_back, lesser_first, greater_second, level_between, in_either_order, compared_ordered.
-- Assumes nothing.
use Prim.Native.Nat.{ℕ, ◌+◌, ◌-◌, ◌/◌, ◌%◌, ◌≤◌, ◌<◌, min, max}
use mathlib.Core.{Bool.Bool, Bool.true, Bool.false, Bool.cond, Bool.◌&&◌, Bool.◌||◌, Path.◌≡◌, Path.refl, Logic.◌⊎◌, Logic.⊎_elim}
use native.Mathlib.Omega.{arith}
use Rattle.std.proofs.lemmas.Grind.{common_steps}
use lib.Dec.{ltb, leb}
use mir.Val.{bool_byte}
use Rattle.sequences.proofs.Tests.{byte_most, lt_or_ge}
use Rattle.interval_graph.specs.Numbers.{Numbers, comes_first, between}
use Rattle.tag_bytes.proofs.Fields.{Within}
use Rattle.tag.specs.declared.pairs.PairAnswer.TheVariants.{Handovers}
use Rattle.tag.specs.Pairing.{compared_of}
use Rattle.tag.proofs.Pairing.{compared_ranks}
use Rattle.tag.specs.Order.{order_of, in_order}

sum_rule : (rising reached around : Bool) (D : ℕ) →
    cond rising (cond (reached || around) (D + 1) (D + 2)) (cond (reached && around) D (D + 1))
    ≡ D + 1 + bool_byte rising - (bool_byte rising + bool_byte reached + bool_byte around) / 2
sum_rule true true around D = omega (arith, byte_most around)
sum_rule true false true D = omega arith
sum_rule true false false D = omega arith
sum_rule false true true D = omega arith
sum_rule false true false D = omega arith
sum_rule false false around D = omega (arith, byte_most around)

-- So the four cases of the rule need no branch.
pub between_sum : (u v : Numbers) → between u v
    ≡ v.depth - u.depth + 1 + bool_byte (ltb u.rank v.rank)
    - (bool_byte (ltb u.rank v.rank) + bool_byte (leb v.rank u.last) + bool_byte (ltb u.last u.rank)) / 2
unfolding between
between_sum u v = sum_rule (ltb u.rank v.rank) (leb v.rank u.last) (ltb u.last u.rank) (v.depth - u.depth)

-- The numbers of a tag hold all that the rules count with.
depth_back : (a : Numbers) → a.rank < 65536 → a.last < 65536 → order_of a / 4294967296 ≡ a.depth
depth_back a rank last = omega arith

rank_back : (a : Numbers) → a.rank < 65536 → a.last < 65536 → order_of a / 65536 % 65536 ≡ a.rank
rank_back a rank last = omega arith

last_back : (a : Numbers) → a.last < 65536 → order_of a % 65536 ≡ a.last
last_back a last = omega arith

-- Of two tags that have not one place, the one that comes first has the smaller number.
module _ (a b : Numbers) (ar : a.rank < 65536) (al : a.last < 65536) (br : b.rank < 65536) (bl : b.last < 65536) where
  lesser_first : order_of a < order_of b → (comes_first a b ≡ true) ⊎ ((a.depth ≡ b.depth) × (a.rank ≡ b.rank))
  unfolding comes_first
  lesser_first less = grind (arith, common_steps)

  greater_second : order_of b ≤ order_of a → comes_first a b ≡ false
  unfolding comes_first
  greater_second less = grind (arith, common_steps)

either : (b : Bool) (x y : ℕ) → x ≡ y → x ≡ cond b x y
either true x y e = refl
either false x y e = e

-- Two tags of one place may be turned round.
level_between : (u v : Numbers) → u.depth ≡ v.depth → u.rank ≡ v.rank → between u v ≡ between v u
unfolding between
level_between u v d r = grind (arith, common_steps)

-- The rule does not count with plan and component.
between_back : (a b : Numbers) → a.rank < 65536 → a.last < 65536 → b.rank < 65536 → b.last < 65536 →
    between (in_order (order_of a)) (in_order (order_of b)) ≡ between a b
unfolding between
between_back a b ar al br bl =
    rw (depth_back a ar al, rank_back a ar al, last_back a al, depth_back b br bl, rank_back b br bl)

pub in_either_order : (a b : Numbers) → a.rank < 65536 → a.last < 65536 → b.rank < 65536 → b.last < 65536 →
    between (in_order (min (order_of a) (order_of b))) (in_order (max (order_of a) (order_of b))) ≡ cond (comes_first a b) (between a b) (between b a)
in_either_order a b ar al br bl =
    ⊎_elim
    (λ less.
    let low : min (order_of a) (order_of b) ≡ order_of a = omega (arith, less) in
    let high : max (order_of a) (order_of b) ≡ order_of b = omega (arith, less) in
    rw (low, high, between_back a b ar al br bl)
    (⊎_elim (λ f. rw f) (λ same. either (comes_first a b) (between a b) (between b a) (level_between a b same.0 same.1))
    (lesser_first a b ar al br bl less)))
    (λ less.
    let low : min (order_of a) (order_of b) ≡ order_of b = omega (arith, less) in
    let high : max (order_of a) (order_of b) ≡ order_of a = omega (arith, less) in
    rw (low, high, between_back b a br bl ar al, greater_second a b ar al br bl less))
    (lt_or_ge (order_of a) (order_of b))

-- What the rule counts with the lesser number in front.
pub compared_ordered : (a b : Numbers) → Within a → Within b → a.plan ≡ b.plan → a.component ≡ b.component → (a.rank ≡ b.rank → ⊥) →
    Handovers (between (in_order (min (order_of a) (order_of b))) (in_order (max (order_of a) (order_of b)))) ≡ compared_of a b
compared_ordered a b ha hb one same other =
    let ar : a.rank < 65536 = omega (arith, ha.rank) in let al : a.last < 65536 = omega (arith, ha.last) in
    let br : b.rank < 65536 = omega (arith, hb.rank) in let bl : b.last < 65536 = omega (arith, hb.last) in
    rw (in_either_order a b ar al br bl) (compared_ranks between a b one same other)
