-- How an answer crosses into C: as one number of 64 bits, four fields of 16 bits, the lowest first. The first field is the kind,
-- which belongs to one variant of one answer in the whole interface; the others are the variant's numbers in paper 01's
-- order, and 0 where it has fewer.
-- Vocabulary: packed, packed_refusal, packed_by; packed_accepted, packed_validation, packed_built, packed_build, packed_farthest, packed_reach,
-- packed_way, packed_chain, packed_count, packed_neighbours, packed_test, packed_same, packed_pair, packed_done, packed_lookup, packed_write,
-- packed_page, packed_margin.
use Rattle.std.specs.Prelude.{ℕ, ◌+◌, ◌*◌, ℤ, Bool, true, false, Option, Some, None, Result, Ok, Err}
use Rattle.refusals.specs.declared.Refusal.{Refusal}
use Rattle.plan.specs.declared.Accepted.{Accepted}
use Rattle.numbering.specs.declared.Built.{Built}
use Rattle.reaching.specs.declared.Reach.{Reach}
use Rattle.tag.specs.declared.pairs.PairAnswer.{PairAnswer}
use Rattle.tag.specs.declared.pairs.PairAnswer.TheVariants as pair
use Rattle.packing.specs.declared.answers.Done.{Done}
use Rattle.packing.specs.declared.answers.Done.TheVariants.{Found, Written, Filled, Measured}

-- Four fields of 16 bits, the lowest first.
abbrev pub packed : (kind first second third : ℕ) → ℕ
packed kind first second third = kind + 65536 * first + 4294967296 * second + 281474976710656 * third

-- "A 'no' gives the number, the input and the position": kind 0 in every call.
abbrev pub packed_refusal : Refusal → ℕ
packed_refusal r = packed 0 r.number r.input r.position

-- An answer that may be refused, by how what is accepted is packed.
abbrev pub packed_by : {T : Type 0} → (T → ℕ) → Result T Refusal → ℕ
packed_by value (Ok t) = value t
packed_by value (Err r) = packed_refusal r

-- "A plan is accepted …": the plan number and the number of windows.
abbrev pub packed_accepted : Accepted → ℕ
packed_accepted a = packed 1 a.plan a.windows 0

abbrev pub packed_validation : Result Accepted Refusal → ℕ
packed_validation answer = packed_by packed_accepted answer

-- "First line: plan number, windows, components."
abbrev pub packed_built : Built → ℕ
packed_built b = packed 2 b.plan b.windows b.components

abbrev pub packed_build : Result Built Refusal → ℕ
packed_build answer = packed_by packed_built answer

-- "the greatest number of handovers …" and "the first pair that has it"
abbrev pub packed_farthest : Reach → ℕ
packed_farthest r = packed 3 r.handovers r.smaller r.larger

abbrev pub packed_reach : Result Reach Refusal → ℕ
packed_reach answer = packed_by packed_farthest answer

-- "Chain writes from the later window to the earlier", and so many entries; kind 5 is "no chain", which a pair of tags
-- gives too.
abbrev pub packed_way : Option ℕ → ℕ
packed_way (Some entries) = packed 4 entries 0 0
packed_way None = packed 5 0 0 0

abbrev pub packed_chain : Result (Option ℕ) Refusal → ℕ
packed_chain answer = packed_by packed_way answer

-- "Neighbours writes the positions …, and returns how many."
abbrev pub packed_count : ℕ → ℕ
packed_count count = packed 6 count 0 0

abbrev pub packed_neighbours : Result ℕ Refusal → ℕ
packed_neighbours answer = packed_by packed_count answer

-- "Two plans are the same when …"
abbrev pub packed_test : Bool → ℕ
packed_test true = packed 7 0 0 0
packed_test false = packed 8 0 0 0

abbrev pub packed_same : Result Bool Refusal → ℕ
packed_same answer = packed_by packed_test answer

-- "From two tags the answer is one of: a number of handovers; no chain; a refusal."
abbrev pub packed_pair : PairAnswer → ℕ
packed_pair (pair.Handovers count) = packed 9 count 0 0
packed_pair pair.NoChain = packed 5 0 0 0
packed_pair (pair.Refused r) = packed_refusal r

-- Of a call that answers by no number of its own the kind alone says that it was done.
abbrev pub packed_done : Done → ℕ
packed_done Found = packed 10 0 0 0
packed_done Written = packed 11 0 0 0
packed_done Filled = packed 12 0 0 0
packed_done Measured = packed 13 0 0 0

-- "a second call on the same inputs gives the refusal, or says that there is none."
abbrev pub packed_lookup : Result (Unit {0}) Refusal → ℕ
packed_lookup answer = packed_by (λ found. packed_done Found) answer

-- "Writing one tag … fills the first ten bytes of a lent table"
abbrev pub packed_write : Result (Unit {0}) Refusal → ℕ
packed_write answer = packed_by (λ written. packed_done Written) answer

-- Q-4: "A tag file of wrong length refuses the whole page by 9"
abbrev pub packed_page : Result (Unit {0}) Refusal → ℕ
packed_page answer = packed_by (λ filled. packed_done Filled) answer

-- Q-7: "give the smaller end less the greater offset": a signed number, which is handed on in a lent place of its own, so that no field
-- has to hold it.
abbrev pub packed_margin : Result ℤ Refusal → ℕ
packed_margin answer = packed_by (λ margin. packed_done Measured) answer
