-- The numbers by which a refusal names its question.
-- Vocabulary: number_of.
use Rattle.std.specs.Prelude.{ℕ}
use Rattle.refusals.specs.declared.question.Question.{Question}
use Rattle.refusals.specs.declared.question.Question.TheVariants.{HasHeader, HasFewWindows, HasItsLength, IsLongEnough, EndsInTime, IsInOrder, IsThere, HasRoom, HasItsBytes, HasSmallFields, HasOnePlan, Agrees, EndsInOrder, HasMinimum, HasPlace, HasNewNumber}

abbrev pub number_of : Question → ℕ
number_of HasHeader = 1
number_of HasFewWindows = 2
number_of HasItsLength = 3
number_of IsLongEnough = 4
number_of EndsInTime = 5
number_of IsInOrder = 6
number_of IsThere = 7
number_of HasRoom = 8
number_of HasItsBytes = 9
number_of HasSmallFields = 10
number_of HasOnePlan = 11
number_of Agrees = 12
number_of EndsInOrder = 13
number_of HasMinimum = 14
number_of HasPlace = 15
number_of HasNewNumber = 16
