-- The kinds by their numbers: the first field of an answer in C.
-- Vocabulary: number_of.
use Rattle.std.specs.Prelude.{ℕ}
use Rattle.packing.specs.declared.kind.Kind.{Kind}
use Rattle.packing.specs.declared.kind.Kind.TheVariants as kind

abbrev pub number_of : Kind → ℕ
number_of kind.Refused = 0
number_of kind.Accepted = 1
number_of kind.Built = 2
number_of kind.Reach = 3
number_of kind.Chain = 4
number_of kind.NoChain = 5
number_of kind.Neighbours = 6
number_of kind.Same = 7
number_of kind.Different = 8
number_of kind.Handovers = 9
number_of kind.Found = 10
number_of kind.Written = 11
number_of kind.Filled = 12
number_of kind.Margin = 13
