-- Paper 01's plan 12, "One plan, worked": its tables and the answers from two windows' numbers come out of the
-- definitions by computation.
-- Assumes nothing.
use Prim.Native.Nat.{ℕ, ◌+◌, min, max}
use mathlib.Core.{Bool.Bool, Bool.true, Bool.not, Bool.◌&&◌, Path.◌≡◌, Path.refl, List.List, List.[], List.◌∷◌, List.flat_map}
use lib.{ListN.get_or, Dec.ltb, Dec.leb, Dec.eqb}
use Rattle.sequences.specs.{Search.least, Search.greatest, Search.count, Search.passing, Lists.index_of, Lists.total, Table.table}
use Rattle.interval_graph.specs.Chain.{handovers, is_chain, leads, joins, first_entry, last_entry}
use Rattle.interval_graph.specs.Tree.{last, parent, depth, component, rank, last_rank}
use Rattle.interval_graph.specs.{Walk.climb, Walk.walk, Walk.chain_of, Reach.last_in_component, Reach.reach_bound}
use Rattle.interval_graph.specs.Reach.{handovers_between, in_component, partner, first_with, reach, smaller, larger}
use Rattle.interval_graph.specs.Numbers.{Outcome, numbers_of, apart, no_chain, equal, comes_first, outcome_by, between, outcome, short, short_between, short_outcome}
use Rattle.interval_graph.specs.Forest as Forest

unfoldable pub offsets : List ℕ
offsets = 0 ∷ 2 ∷ 4 ∷ 9 ∷ 12 ∷ 17 ∷ 18 ∷ []

unfoldable pub lengths : List ℕ
lengths = 10 ∷ 3 ∷ 12 ∷ 2 ∷ 6 ∷ 1 ∷ 4 ∷ []

-- Two different windows overlap when the later offset lies before the earlier end.
unfoldable pub overlaps : ℕ → ℕ → Bool
overlaps u v =
    not (eqb u v) && ltb (max (get_or offsets u 0) (get_or offsets v 0))
    (min (get_or offsets u 0 + get_or lengths u 0) (get_or offsets v 0 + get_or lengths v 0))

-- What a computation of plan 12 opens: naming it on an `unfolding` line opens all that its own line names.
unfoldable pub definitions : Unit {0}
unfolding table overlaps offsets lengths last parent last_rank
    Forest.is_root Forest.ancestor Forest.depth Forest.root Forest.component Forest.children Forest.post_order_to Forest.post_order Forest.rank
    least greatest count passing index_of flat_map outcome_by equal comes_first between numbers_of handovers is_chain leads joins first_entry last_entry
definitions = tt

-- A line of the paper's listing after its position: parent, component, depth, rank, rank of the last.
unfoldable pub row : (ℕ → ℕ → Bool) → ℕ → List ℕ
row overlap v = parent overlap v ∷ component overlap v ∷ depth overlap v ∷ rank 7 overlap v ∷ last_rank 7 overlap v ∷ []

unfoldable pub listing : List (List ℕ)
listing =
    (0 ∷ 0 ∷ 0 ∷ 5 ∷ 4 ∷ []) ∷ (0 ∷ 0 ∷ 1 ∷ 0 ∷ 3 ∷ []) ∷ (0 ∷ 0 ∷ 1 ∷ 3 ∷ 2 ∷ []) ∷ (0 ∷ 0 ∷ 1 ∷ 4 ∷ 4 ∷ []) ∷ (2 ∷ 0 ∷ 2 ∷ 2 ∷ 1 ∷ [])
    ∷ (4 ∷ 0 ∷ 3 ∷ 1 ∷ 1 ∷ []) ∷ (6 ∷ 1 ∷ 0 ∷ 0 ∷ 0 ∷ []) ∷ []

pub plan_12_tables : table (row overlaps) 7 ≡ listing
unfolding definitions row listing
plan_12_tables = refl

-- The paper's nine answers, each from the numbers of the two windows alone, in either order of naming.
unfoldable pub answer : ℕ → ℕ → Outcome
answer u v = outcome (numbers_of 7 overlaps 12 u) (numbers_of 7 overlaps 12 v)

unfoldable pub answers : List Outcome
answers = answer 0 5 ∷ answer 1 5 ∷ answer 3 5 ∷ answer 2 3 ∷ answer 1 3 ∷ answer 3 4 ∷ answer 4 5 ∷ answer 5 6 ∷ answer 6 6 ∷ []

unfoldable pub answers_reversed : List Outcome
answers_reversed = answer 5 0 ∷ answer 5 1 ∷ answer 5 3 ∷ answer 3 2 ∷ answer 3 1 ∷ answer 4 3 ∷ answer 5 4 ∷ answer 6 5 ∷ answer 6 6 ∷ []

pub plan_12_answers : answers ≡ apart 3 ∷ apart 3 ∷ apart 3 ∷ apart 1 ∷ apart 2 ∷ apart 2 ∷ apart 1 ∷ no_chain ∷ apart 0 ∷ []
unfolding definitions answer answers
plan_12_answers = refl

pub plan_12_answers_reversed : answers_reversed ≡ answers
unfolding definitions answer answers answers_reversed
plan_12_answers_reversed = refl

-- Windows 1 and 2 overlap: the rank of window 2 is that of the last of window 1.
pub plan_12_overlap : answer 1 2 ≡ apart 1
unfolding definitions answer
plan_12_overlap = refl

-- Where each window's list begins in its root's, and how long it is.
pub plan_12_starts : table (Forest.start 7 (parent overlaps)) 7 ∷ table (Forest.size 7 (parent overlaps)) 7 ∷ []
    ≡ (0 ∷ 0 ∷ 1 ∷ 4 ∷ 1 ∷ 1 ∷ 0 ∷ []) ∷ (6 ∷ 1 ∷ 3 ∷ 1 ∷ 2 ∷ 1 ∷ 1 ∷ []) ∷ []
unfolding definitions Forest.size Forest.earlier_siblings Forest.start_to Forest.start total
plan_12_starts = refl

-- The paper's chains join their windows with as many handovers as the answers say.
pub plan_12_chains : joins 7 overlaps 0 5 (5 ∷ 4 ∷ 2 ∷ 0 ∷ []) && (joins 7 overlaps 3 5 (5 ∷ 4 ∷ 2 ∷ 3 ∷ [])
    && (joins 7 overlaps 1 3 (3 ∷ 0 ∷ 1 ∷ []) && joins 7 overlaps 6 6 (6 ∷ []))) ≡ true
unfolding definitions
plan_12_chains = refl

pub plan_12_handovers : handovers (5 ∷ 4 ∷ 2 ∷ 0 ∷ []) ∷ handovers (5 ∷ 4 ∷ 2 ∷ 3 ∷ []) ∷ handovers (3 ∷ 0 ∷ 1 ∷ []) ∷ handovers (6 ∷ []) ∷ []
    ≡ 3 ∷ 3 ∷ 2 ∷ 0 ∷ []
unfolding definitions
plan_12_handovers = refl

-- The chains that are written are the paper's; between windows of two components nothing is written, and between a window and its
-- last the two alone.
pub plan_12_written : chain_of 7 overlaps 0 5 ∷ chain_of 7 overlaps 3 5 ∷ chain_of 7 overlaps 3 1 ∷ chain_of 7 overlaps 6 6
    ∷ chain_of 7 overlaps 5 6 ∷ chain_of 7 overlaps 0 3 ∷ [] ≡ (5 ∷ 4 ∷ 2 ∷ 0 ∷ []) ∷ (5 ∷ 4 ∷ 2 ∷ 3 ∷ []) ∷ (3 ∷ 0 ∷ 1 ∷ []) ∷ (6 ∷ []) ∷ [] ∷ (3 ∷ 0 ∷ []) ∷ []
unfolding definitions climb walk chain_of
plan_12_written = refl

-- Q-5: "The cases become 3 for position 0, pair 0 and 5, and 0 for position 6", whose pair is 6 and 6.
unfoldable pub reached : ℕ → List ℕ
reached at = reach 7 overlaps at ∷ smaller 7 overlaps at ∷ larger 7 overlaps at ∷ []

pub plan_12_reach : reached 0 ∷ reached 6 ∷ [] ≡ (3 ∷ 0 ∷ 5 ∷ []) ∷ (0 ∷ 6 ∷ 6 ∷ []) ∷ []
unfolding definitions climb walk chain_of reached handovers_between in_component partner first_with reach smaller larger
plan_12_reach = refl

-- The first pair need not begin at the component's first window: of windows with lasts 3 1 3 3 it is 1 and 2. And the smaller position decides:
-- with lasts 5 3 2 5 5 5 windows 2 and 3 are as far apart as 1 and 4.
unfoldable pub up_to : List ℕ → ℕ → ℕ → Bool
up_to lasts u v = not (eqb u v) && leb (max u v) (get_or lasts (min u v) 0)

unfoldable pub reached_by : ℕ → List ℕ → List ℕ
reached_by n lasts = reach n (up_to lasts) 0 ∷ smaller n (up_to lasts) 0 ∷ larger n (up_to lasts) 0 ∷ []

pub behind_the_root : reached_by 4 (3 ∷ 1 ∷ 3 ∷ 3 ∷ []) ∷ reached_by 6 (5 ∷ 3 ∷ 2 ∷ 5 ∷ 5 ∷ 5 ∷ []) ∷ [] ≡ (2 ∷ 1 ∷ 2 ∷ []) ∷ (2 ∷ 1 ∷ 4 ∷ []) ∷ []
unfolding definitions climb walk chain_of up_to reached_by handovers_between in_component partner first_with reach smaller larger
behind_the_root = refl

-- The bound that was paper 01's reach: 4 for position 0, 1 for position 6.
pub plan_12_bound : reach_bound 7 overlaps 0 ∷ reach_bound 7 overlaps 6 ∷ [] ≡ 4 ∷ 1 ∷ []
unfolding definitions in_component last_in_component reach_bound
plan_12_bound = refl

-- Why short tags are for even plans alone: the last of window 0 is 3 and that of window 1 is 2, so lasts fall, and the rule on short
-- tags says 1 of windows 1 and 3, which are 2 apart.
unfoldable pub short_answer : ℕ → ℕ → Outcome
short_answer u v = short_outcome (short (numbers_of 7 overlaps 12 u)) (short (numbers_of 7 overlaps 12 v))

pub plan_12_lasts_fall : last 7 overlaps 0 ∷ last 7 overlaps 1 ∷ [] ≡ 3 ∷ 2 ∷ []
unfolding definitions
plan_12_lasts_fall = refl

pub plan_12_short : short_answer 1 3 ∷ answer 1 3 ∷ [] ≡ apart 1 ∷ apart 2 ∷ []
unfolding definitions answer short_answer short short_between
plan_12_short = refl

-- Where it is right: rank u < rank v, and not; the other component, and one window twice.
pub plan_12_short_answers : short_answer 2 3 ∷ short_answer 5 2 ∷ short_answer 5 6 ∷ short_answer 6 6 ∷ [] ≡ apart 1 ∷ apart 2 ∷ no_chain ∷ apart 0 ∷ []
unfolding definitions short_answer short short_between
plan_12_short_answers = refl
