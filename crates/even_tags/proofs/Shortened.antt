-- The file of short tags: its answer by that of the parents, and the tags of an even plan's tables.
-- Vocabulary: short_*.
-- Assumes nothing.
use Prim.Native.Nat.{ℕ, ◌*◌, ◌/◌, ◌≤◌, ◌<◌, min}
use mathlib.Core.{Bool.true, Path.◌≡◌, Path.sym, Path.subst, Path.◌∙◌, List.List}
use native.Mathlib.Omega.{arith}
use lib.Dec.{leb}
use borrow.Author.Tests.{leb-true, le-leb}
use Rattle.sequences.specs.Table.{Holds}
use Rattle.sequences.proofs.Tests.{iff_equal}
use Rattle.interval_graph.specs.Numbers.{Numbers, numbers_of, short}
use Rattle.interval_graph.proofs.Bounds.{numbers_small}
use Rattle.refusals.proofs.Questions.{first_map}
use Rattle.plan.specs.File.{plan_number, window_count}
use Rattle.plan.specs.Validation.{greatest_count}
use Rattle.plan.specs.AcceptedWindows.{AcceptedWindows}
use Rattle.plan.proofs.Acceptance.{accepted_sound}
use Rattle.plan.proofs.Calls.{plan_alike}
use Rattle.plan.proofs.Counted.{windows_few}
use Rattle.overlap.specs.Overlap.{overlaps}
use Rattle.overlap.proofs.Counted.{windows_order}
use Rattle.tag_bytes.specs.Fields.{short_length, within_limit}
use Rattle.tag_bytes.specs.TagFile.{short_tag_file}
use Rattle.tag_bytes.proofs.Fields.{limit_within}
use Rattle.tag_bytes.proofs.TagFile.{short_tag_file_cong, short_tag_file-short}
use Rattle.minutes.specs.EvenTable.{even_table_questions, even_table_answer_of}
use Rattle.minutes.proofs.EvenTabled.{even_fills}
use Rattle.std.specs.Prelude.{Ok, Err}
use Rattle.numbering.specs.Tables.{component_of, depth_of, rank_of, numbers_at}
use Rattle.numbering.proofs.Filled.{built}
use Rattle.even_tags.specs.ShortTags.{short_tags_questions, short_tags_answer_of}
use Rattle.even_tags.specs.Tagging.{short_numbers_in, Numbered}

-- A table as long as any plan's leaves the room of the tags to be asked for.
room_alike : (windows t : ℕ) → windows ≤ greatest_count → leb windows (min (t / short_length) greatest_count) ≡ leb (short_length * windows) t
room_alike windows t few =
    iff_equal _ _ (λ s. le-leb (short_length * windows) t (fits (leb-true windows (min (t / short_length) greatest_count) s)))
    (λ s. le-leb windows (min (t / short_length) greatest_count) (omega (arith, few, leb-true (short_length * windows) t s)))
  where
    fits : windows ≤ min (t / short_length) greatest_count → short_length * windows ≤ t
    fits h = omega arith

-- The parents' answer as that of the tags.
pub short_tables : (file : List ℕ) (t : ℕ) → built file (even_table_answer_of file (min (t / short_length) greatest_count)) ≡ short_tags_answer_of file t
unfolding even_table_answer_of even_table_questions short_tags_answer_of short_tags_questions
short_tables file t =
    first_map (built file) (even_table_questions file (min (t / short_length) greatest_count)) Err (Ok (window_count file))
    ∙ plan_alike file _ _ Err _ (λ ok. rw (room_alike (window_count file) t (accepted_sound file ok).few))

pub short_answered : (file : List ℕ) (t : ℕ) → short_tags_answer_of file t ≡ built file (even_table_answer_of file (min (t / short_length) greatest_count))
short_answered file t = sym (short_tables file t)

-- Where they are filled the plan is accepted, and there is room in either.
pub short_fills : (file : List ℕ) (t windows : ℕ) → even_table_answer_of file (min (t / short_length) greatest_count) ≡ Ok windows →
    AcceptedWindows file windows × (windows ≤ greatest_count) × (short_length * windows ≤ t)
short_fills file t windows e =
    let fills = even_fills file _ windows e in (fills.0, omega (arith, fills.1), omega (arith, fills.1))

-- The three tables that short tags are made of hold the numbers of the windows, and none is too great.
module _ {file : List ℕ} {windows : ℕ} (plan : AcceptedWindows file windows) (number : ℕ) (named : number ≡ plan_number file)
    {components depths ranks : List ℕ} (c : Holds components (component_of file) windows) (d : Holds depths (depth_of file) windows) (r : Holds ranks
    (rank_of file) windows) where
  numbers_held : (v : ℕ) → v < windows → short_numbers_in number components depths ranks v ≡ short (numbers_at file v)
  unfolding numbers_at numbers_of component_of depth_of rank_of short
  numbers_held v h = rw (named, c.at v h, d.at v h, r.at v h)

  pub short_numbered : Numbered windows number components depths ranks
  unfolding numbers_at numbers_of short
  short_numbered =
      record {
        components_long = c.long;
        depths_long = d.long;
        ranks_long = r.long;
        fit = λ v h.
            let small = numbers_small (windows_order plan) v h in
            let few = windows_few plan in
            let held : within_limit (short (numbers_at file v)) ≡ true =
            rw (← plan.counted) (limit_within (short (numbers_of windows (overlaps file) (plan_number file) v))
            (record { component = omega arith; depth = omega arith; rank = omega arith; last = omega arith })) in
            subst (λ (n : Numbers). within_limit n ≡ true) (sym (numbers_held v h)) held;
      }

  pub short_filled : short_tag_file (short_numbers_in number components depths ranks) windows ≡ short_tag_file (numbers_at file) windows
  short_filled = short_tag_file_cong _ _ windows numbers_held ∙ short_tag_file-short (numbers_at file) windows
