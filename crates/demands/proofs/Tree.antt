-- Demand 2.
-- Assumes nothing.
use Rattle.std.specs.Prelude.{Result}
use Prim.Native.Nat.{ℕ, ◌<◌}
use mathlib.Core.{Bool.true, Path.◌≡◌, List.List}
use native.Mathlib.Omega.{arith}
use Rattle.sequences.specs.Table.{overwritten}
use Rattle.interval_graph.specs.Numbers.{numbers_of}
use Rattle.interval_graph.proofs.Bounds.{numbers_small}
use Rattle.refusals.specs.declared.refusal.Refusal.{Refusal}
use Rattle.plan.specs.File.{plan_number, window_count}
use Rattle.plan.specs.Validation.{AcceptedPlan}
use Rattle.plan.proofs.Acceptance.{accepted_sound}
use Rattle.overlap.proofs.InOrder.{interval_order}
use Rattle.tag_bytes.specs.Fields.{numbers, within_limit}
use Rattle.tag_bytes.proofs.Fields.{limit_within, length-tag_bytes}
use Rattle.tag_bytes.proofs.Writing.{tag_bytes_read, written_reads_back, read_tag_bytes, read_accepted}
use Rattle.tag_bytes.proofs.TagFile.{tag_file_lookup}
use Rattle.numbering.specs.declared.filling.Built as numbering
use Rattle.numbering.specs.declared.filling.Built as numbering
use Rattle.minutes.specs.Tables.{parent_of}
use Rattle.numbering.specs.Tables.{component_of, depth_of, rank_of, last_rank_of, component_count, numbers_at}
use Rattle.numbering.specs.Numbering.{after_build}
use Rattle.numbering.specs.Numbering.{built_as}
use Rattle.tree.specs.Build.{after_tags}
use Rattle.tree.proofs.Answered.{build_built}
use Rattle.demands.specs.EndToEnd.{tag_at}
use Rattle.demands.specs.Tree.{Built, Demand2}

-- The numbers of a window of an accepted plan are within a tag's limits.
pub window_within : (file : List ℕ) → AcceptedPlan file → (v : ℕ) → v < window_count file → within_limit (numbers_at file v) ≡ true
unfolding numbers_at numbers_of
window_within file ok v h =
    let small = numbers_small (interval_order file ok) v h in
    let few = (accepted_sound file ok).few in
    limit_within (numbers_at file v) (record { component = omega arith; depth = omega arith; rank = omega arith; last = omega arith })

built : (file : List ℕ) (answer : Result numbering.Built Refusal) → answer ≡ built_as (plan_number file) (window_count file) (component_count file) → Built file answer
unfolding after_build after_tags parent_of component_of depth_of rank_of last_rank_of numbers_at
built file answer e =
    record {
      answered = e;
      parents = λ before. rw e;
      components = λ before. rw e;
      depths = λ before. rw e;
      ranks = λ before. rw e;
      last_ranks = λ before. rw e;
      tags = λ before. rw e;
    }

pub demand_2 : Demand2
unfolding tag_at numbers_at overwritten
demand_2 =
    record {
      tree = λ file ok p c d r l t hp hc hd hr hl ht. built file _ (build_built file p c d r l t ok
          (record { parents_room = hp; components_room = hc; depths_room = hd; ranks_room = hr; last_ranks_room = hl }) ht);
      tags = λ file ok v h. rw (tag_file_lookup (numbers_at file) (window_count file) v h) (tag_bytes_read (numbers_at file v) (window_within file ok v h));
      reads_back = written_reads_back;
      writes_back = λ bytes t out small e room. rw (read_accepted bytes t out e room, length-tag_bytes (numbers t), read_tag_bytes bytes t small e);
    }
