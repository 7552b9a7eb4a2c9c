-- Paper 01, "Tag": the five numbers, and the rule on two tags, both on plain numbers. Paper 02, Q-1: the same for short tags.
-- Vocabulary: Numbers, numbers_of, Outcome, equal, comes_first, outcome_by, between, outcome; short, short_between, short_outcome.
use Rattle.std.specs.Prelude.{ℕ, ◌+◌, ◌-◌, Bool, cond, ◌&&◌, ◌||◌, ltb, leb, eqb}
use Rattle.interval_graph.specs.Tree as Tree

-- "Five numbers …: plan number, component, depth, rank, rank of the last."
pub record Numbers : Type 0 where
  pub plan : ℕ
  pub component : ℕ
  pub depth : ℕ
  pub rank : ℕ
  pub last : ℕ

-- The numbers of the window at position v, among n windows with an overlap test.
unfoldable pub numbers_of : ℕ → (ℕ → ℕ → Bool) → ℕ → ℕ → Numbers
numbers_of n overlaps plan v =
    record {
      plan = plan;
      component = Tree.component overlaps v;
      depth = Tree.depth overlaps v;
      rank = Tree.rank n overlaps v;
      last = Tree.last_rank n overlaps v;
    }

-- What the numbers of two windows say: "a number of handovers; no chain".
pub data Outcome : Type 0 where
  apart : ℕ → Outcome
  no_chain : Outcome

unfoldable pub equal : Numbers → Numbers → Bool
equal u v =
    eqb u.plan v.plan
    && (eqb u.component v.component
    && (eqb u.depth v.depth
    && (eqb u.rank v.rank
    && eqb u.last v.last)))

-- "u is the tag with smaller depth, or smaller rank at equal depth"
unfoldable pub comes_first : Numbers → Numbers → Bool
comes_first u v = ltb u.depth v.depth || (eqb u.depth v.depth && ltb u.rank v.rank)

-- "Equal tags give 0, different components no chain. Otherwise …" what a rule counts, with the tag that comes first in front.
unfoldable pub outcome_by : (Numbers → Numbers → ℕ) → Numbers → Numbers → Outcome
outcome_by rule u v =
    cond (equal u v) (apart 0)
    (cond (eqb u.component v.component) (apart (cond (comes_first u v) (rule u v) (rule v u))) no_chain)

-- "D is depth v − depth u.
--  Rank u < rank v: D + 1 if rank v ≤ last u or last u < rank u; else D + 2.
--  Rank u > rank v: D if rank v ≤ last u and last u < rank u; else D + 1."
unfoldable pub between : Numbers → Numbers → ℕ
between u v =
    let D = v.depth - u.depth in
    cond (ltb u.rank v.rank)
    (cond (leb v.rank u.last || ltb u.last u.rank) (D + 1) (D + 2))
    (cond (leb v.rank u.last && ltb u.last u.rank) D (D + 1))

abbrev pub outcome : Numbers → Numbers → Outcome
outcome u v = outcome_by between u v

-- Q-1: "an eight-byte tag (plan number, component, depth, rank)". It has no rank of the last, for which 0 stands here.
unfoldable pub short : Numbers → Numbers
short n = record { plan = n.plan; component = n.component; depth = n.depth; rank = n.rank; last = 0 }

-- Q-1: "With u and v as before, a short pair of one component gives 0 if equal, D + 1 if rank u < rank v, else D."
unfoldable pub short_between : Numbers → Numbers → ℕ
short_between u v =
    let D = v.depth - u.depth in
    cond (ltb u.rank v.rank) (D + 1) D

abbrev pub short_outcome : Numbers → Numbers → Outcome
short_outcome u v = outcome_by short_between u v
