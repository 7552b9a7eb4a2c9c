-- Paper 02, Q-1: short tags of even plans.
-- Vocabulary: EndsRise, short_tag_at, ShortAnswered, ShortPairs, ShortDiffers, NeedsEven, ShortTags.
use Rattle.std.specs.Prelude.{Ok}
use Rattle.std.specs.Prelude.{ℕ, suc, ◌*◌, ◌≤◌, ◌<◌, length, get_or, take, drop}
use mathlib.Core.{Path.◌≡◌, Logic.◌↔◌, List.List, List.◌++◌}
use Rattle.sequences.specs.Table.{overwritten}
use Rattle.interval_graph.specs.{Chain.Joined, Chain.LeastHandovers, Numbers.numbers_of}
use Rattle.plan.specs.File.{plan_number, window_count, window_at, end_of}
use Rattle.overlap.specs.Overlap.{overlaps}
use Rattle.plan.specs.{Validation.AcceptedPlan, Even.EvenPlan}
use Rattle.tag_bytes.specs.{declared.short_tag.ShortTag.ShortTag, Fields.short_length, Fields.short_tag_with}
use Rattle.tag_bytes.specs.{Reading.short_read_answer_of, Writing.short_write_answer_of, Writing.after_short_write}
use Rattle.tag_bytes.specs.TagFile.{part_of, short_tag_file}
use Rattle.tag.specs.Pairing.{pair_answer_of}
use Rattle.short_tag.specs.ShortPairing.{short_pair_answer_of, short_pair_at_answer_of}
use Rattle.tag.specs.declared.pairs.PairAnswer.TheVariants as PairAnswer
use Rattle.numbering.specs.Tables.{numbers_at}
use Rattle.even_tags.specs.ShortTags.{short_tags_answer_of, after_short_tags}
use Rattle.demands.specs.EndToEnd.{tag_at}

-- "ends never fall from one window to the next"
abbrev pub EndsRise : List ℕ → Type 0
EndsRise file = (v : ℕ) → suc v < window_count file → end_of (window_at file v) ≤ end_of (window_at file (suc v))

-- The short tag of a window: the eight bytes at its position of the plan's file of short tags.
unfoldable pub short_tag_at : List ℕ → ℕ → List ℕ
short_tag_at file v = part_of short_length (short_tag_file (numbers_at file) (window_count file)) v

-- "On every even plan the short pair must answer just as the long pair does": of every two windows, in either order and also one twice.
pub record ShortAnswered (file : List ℕ) (u v : ℕ) : Type 0 where
  pub as_long : short_pair_answer_of (short_tag_at file u) (short_tag_at file v) ≡ pair_answer_of (tag_at file u) (tag_at file v)
  -- Hence a number is answered exactly if it is the least, and "no chain" exactly when none joins them,
  pub counted :
      (k : ℕ) → (short_pair_answer_of (short_tag_at file u) (short_tag_at file v) ≡ PairAnswer.Handovers k)
      ↔ LeastHandovers (window_count file) (overlaps file) u v k
  pub tags_apart :
      (short_pair_answer_of (short_tag_at file u) (short_tag_at file v) ≡ PairAnswer.NoChain)
      ↔ (Joined (window_count file) (overlaps file) u v → ⊥)
  -- and so from two positions of the file of short tags.
  pub at_positions :
      short_pair_at_answer_of (short_tag_file (numbers_at file) (window_count file)) u v
      ≡ short_pair_answer_of (short_tag_at file u) (short_tag_at file v)

abbrev pub ShortPairs : Type 0
ShortPairs =
    (file : List ℕ) → AcceptedPlan file → EndsRise file → (u v : ℕ) → u < window_count file → v < window_count file → ShortAnswered file u v

-- Why 13 is asked: of some accepted plan the two do not answer alike.
pub record ShortDiffers (file : List ℕ) (u v : ℕ) : Type 0 where
  pub accepted : AcceptedPlan file
  pub first_window : u < window_count file
  pub second_window : v < window_count file
  pub differ : short_pair_answer_of (short_tag_at file u) (short_tag_at file v) ≡ pair_answer_of (tag_at file u) (tag_at file v) → ⊥

abbrev pub NeedsEven : Type 0
NeedsEven = (file : List ℕ) × (u : ℕ) × (v : ℕ) × ShortDiffers file u v

pub record ShortTags : Type 0 where
  -- "a plan where an end falls": question 13 is answered "yes" at every window exactly if none does.
  pub even : (file : List ℕ) → EvenPlan file ↔ EndsRise file
  -- "writing all n from a plan": into every table with room for them, and what lies past them stays.
  pub written :
      (file : List ℕ) → AcceptedPlan file → EndsRise file → (before : List ℕ) → short_length * window_count file ≤ length before →
      after_short_tags (short_tags_answer_of file (length before)) (numbers_at file) before
      ≡ overwritten before (short_tag_file (numbers_of (window_count file) (overlaps file) (plan_number file)) (window_count file))
  -- "plan number, component, depth, rank": what the short tag of the window at v reads as.
  pub tags :
      (file : List ℕ) → AcceptedPlan file → (v : ℕ) → v < window_count file →
      short_read_answer_of (short_tag_at file v)
      ≡ Ok (short_tag_with (numbers_of (window_count file) (overlaps file) (plan_number file) v))
  -- A written short tag reads back as the same four numbers, and eight bytes that read as one are written back the same.
  pub reads_back :
      (t : ShortTag) (out : List ℕ) → short_write_answer_of t out ≡ Ok tt →
      short_read_answer_of (take short_length (after_short_write (short_write_answer_of t out) t out)) ≡ Ok t
  pub writes_back :
      (bytes : List ℕ) (t : ShortTag) (out : List ℕ) → ((i : ℕ) → get_or bytes i 0 < 256) →
      short_read_answer_of bytes ≡ Ok t → short_length ≤ length out →
      after_short_write (short_write_answer_of t out) t out ≡ bytes ++ drop short_length out
  -- Two short tags that can be read answer alike in either order, whatever plan they come from.
  pub either_order :
      (first second : List ℕ) (a b : ShortTag) → short_read_answer_of first ≡ Ok a →
      short_read_answer_of second ≡ Ok b → short_pair_answer_of first second ≡ short_pair_answer_of second first
