-- Build: room for each table and for the tag file, the tags of an accepted plan's tables, and the answers.
-- Assumes nothing.
use Prim.Native.Nat.{ℕ, ◌*◌, ◌/◌, ◌≤◌, ◌<◌}
use mathlib.Core.{Bool.true, Bool.◌&&◌, Path.◌≡◌, Path.◌∙◌, Path.sym, Path.subst, List.List}
use lib.Dec.{leb}
use native.Mathlib.Omega.{arith}
use borrow.Author.Tests.{leb-true, le-leb}
use Rattle.sequences.specs.Table.{Holds}
use Rattle.sequences.proofs.Tests.{and_left, and_right, iff_equal}
use Rattle.interval_graph.specs.Numbers.{Numbers, numbers_of}
use Rattle.interval_graph.proofs.Bounds.{numbers_small}
use Rattle.plan.specs.File.{plan_number, window_count}
use Rattle.plan.specs.Validation.{greatest_count, AcceptedPlan}
use Rattle.plan.specs.AcceptedWindows.{AcceptedWindows}
use Rattle.plan.proofs.Acceptance.{accepted_sound}
use Rattle.plan.proofs.Calls.{plan_passed, plan_alike}
use Rattle.plan.proofs.Counted.{windows_few}
use Rattle.overlap.specs.Overlap.{overlaps}
use Rattle.overlap.proofs.Counted.{windows_order}
use Rattle.tag_bytes.specs.Fields.{tag_length, within_limit}
use Rattle.tag_bytes.specs.TagFile.{tag_file}
use Rattle.tag_bytes.proofs.Fields.{limit_within}
use Rattle.tag_bytes.proofs.TagFile.{tag_file_cong}
use Rattle.minutes.specs.SingleTable.{table_questions}
use Rattle.std.specs.Prelude.{Err}
use Rattle.numbering.specs.Tables.{component_of, depth_of, rank_of, last_rank_of, component_count, numbers_at}
use Rattle.numbering.specs.Numbering.{least_room, built_as, numbers_answer_of}
use Rattle.numbering.proofs.Filled.{Rooms, least_rooms}
use Rattle.tree.specs.Build.{tables_fit, build_questions, build_answer_of, tags_questions, tags_answer_of}
use Rattle.tree.specs.Tagging.{numbers_in, Numbered}

-- The tag file has room for as many tags as it has ten bytes.
pub tags_room : (n t : ℕ) → n ≤ t / tag_length → tag_length * n ≤ t
tags_room n t h = omega arith

module _ (n p c d r l t : ℕ) where
  rooms_fit : Rooms n p c d r l → tag_length * n ≤ t → tables_fit n p c d r l t ≡ true
  unfolding tables_fit
  rooms_fit s fits =
      rw (
        le-leb n p s.parents_room,
        le-leb n c s.components_room,
        le-leb n d s.depths_room,
        le-leb n r s.ranks_room,
        le-leb n l s.last_ranks_room,
      ) (le-leb (tag_length * n) t fits)

  fit_rooms : tables_fit n p c d r l t ≡ true → Rooms n p c d r l × (tag_length * n ≤ t)
  unfolding tables_fit
  fit_rooms h =
      let t5 = leb n l && leb (tag_length * n) t in
      let t4 = leb n r && t5 in
      let t3 = leb n d && t4 in
      let t2 = leb n c && t3 in
      let h2 = and_right (leb n p) t2 h in
      let h3 = and_right (leb n c) t3 h2 in
      let h4 = and_right (leb n d) t4 h3 in
      let h5 = and_right (leb n r) t5 h4 in (
        record {
          parents_room = leb-true n p (and_left (leb n p) t2 h);
          components_room = leb-true n c (and_left (leb n c) t3 h2);
          depths_room = leb-true n d (and_left (leb n d) t4 h3);
          ranks_room = leb-true n r (and_left (leb n r) t5 h4);
          last_ranks_room = leb-true n l (and_left (leb n l) (leb (tag_length * n) t) h5);
        },
        leb-true (tag_length * n) t (and_right (leb n l) (leb (tag_length * n) t) h5),
      )

  -- Question 8 of all tables is that of the least room.
  least_fit : leb n (least_room (t / tag_length) p c d r l) ≡ tables_fit n p c d r l t
  least_fit =
      let k = least_room (t / tag_length) p c d r l in
      iff_equal (leb n k) (tables_fit n p c d r l t)
      (λ s. let rooms = least_rooms n _ p c d r l (leb-true n k s) in rooms_fit rooms.0 (tags_room n t rooms.1))
      (λ s. let rooms = fit_rooms s in let five = rooms.0 in
      le-leb n k
      (omega (arith, five.parents_room, five.components_room, five.depths_room, five.ranks_room, five.last_ranks_room, rooms.1)))

-- The four tables that tags are made of hold the numbers of the windows, and none is too great.
module _ {file : List ℕ} {windows : ℕ} (plan : AcceptedWindows file windows) (number : ℕ)
    (named : number ≡ plan_number file) {components depths ranks last_ranks : List ℕ} (c : Holds components (component_of file) windows) (d : Holds depths
    (depth_of file) windows) (r : Holds ranks (rank_of file) windows) (l : Holds last_ranks (last_rank_of file) windows) where
  numbers_held : (v : ℕ) → v < windows → numbers_in number components depths ranks last_ranks v ≡ numbers_at file v
  unfolding numbers_at numbers_of component_of depth_of rank_of last_rank_of
  numbers_held v h = rw (named, c.at v h, d.at v h, r.at v h, l.at v h)

  pub numbers_filled : Numbered windows number components depths ranks last_ranks
  unfolding numbers_at numbers_of
  numbers_filled =
      record {
        components_long = c.long;
        depths_long = d.long;
        ranks_long = r.long;
        last_ranks_long = l.long;
        fit = λ v h.
            let small = numbers_small (windows_order plan) v h in
            let few = windows_few plan in
            let held : within_limit (numbers_at file v) ≡ true =
            rw (← plan.counted) (limit_within (numbers_of windows (overlaps file) (plan_number file) v) (record { component = omega arith; depth = omega arith; rank = omega arith; last = omega arith })) in
            subst (λ (n : Numbers). within_limit n ≡ true) (sym (numbers_held v h)) held;
      }

  pub tags_filled : tag_file (numbers_in number components depths ranks last_ranks) windows ≡ tag_file (numbers_at file) windows
  tags_filled = tag_file_cong _ _ windows numbers_held

-- An accepted plan with room for all is built.
pub build_built : (file : List ℕ) (p c d r l t : ℕ) → AcceptedPlan file → Rooms (window_count file) p c d r l → tag_length * window_count file ≤ t →
    build_answer_of file p c d r l t ≡ built_as (plan_number file) (window_count file) (component_count file)
unfolding build_answer_of build_questions
build_built file p c d r l t ok rooms fits =
    plan_passed file _ Err _ ok ∙ rw (rooms_fit (window_count file) p c d r l t rooms fits)

-- And so is its tag file alone.
pub tags_made : (file : List ℕ) (t : ℕ) → AcceptedPlan file → tag_length * window_count file ≤ t →
    tags_answer_of file t ≡ built_as (plan_number file) (window_count file) (component_count file)
unfolding tags_answer_of tags_questions
tags_made file t ok fits = plan_passed file _ Err _ ok ∙ rw (le-leb (tag_length * window_count file) t fits)

-- The five tables are answered as build is, where they are told the tag file's room.
pub numbers_answered : (file : List ℕ) (p c d r l t : ℕ) → numbers_answer_of file (least_room (t / tag_length) p c d r l) ≡ build_answer_of file p c d r l t
unfolding numbers_answer_of table_questions build_answer_of build_questions
numbers_answered file p c d r l t = rw (least_fit (window_count file) p c d r l t)

pub build_answered : (file : List ℕ) (p c d r l t : ℕ) → build_answer_of file p c d r l t ≡ numbers_answer_of file (least_room (t / tag_length) p c d r l)
build_answered file p c d r l t = sym (numbers_answered file p c d r l t)

-- Tables as long as any plan's leave the tag file's room to be asked for.
tables_hold : (windows t : ℕ) → windows ≤ greatest_count →
    tables_fit windows greatest_count greatest_count greatest_count greatest_count greatest_count t ≡ leb (tag_length * windows) t
unfolding tables_fit
tables_hold windows t few = rw (le-leb windows greatest_count few)

pub tags_built : (file : List ℕ) (t : ℕ) → build_answer_of file greatest_count greatest_count greatest_count greatest_count greatest_count t ≡ tags_answer_of file t
unfolding build_answer_of build_questions tags_answer_of tags_questions
tags_built file t = plan_alike file _ _ Err _ (λ ok. rw (tables_hold (window_count file) t (accepted_sound file ok).few))
