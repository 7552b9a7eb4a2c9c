-- `tree::building::build` meets its contract where it is not refused: the tag file from the five tables.
use Rattle.std.proofs.Common.{ap, sym, ◌∙◌}
use Rattle.sequences.specs.Table.{overwritten}
use Rattle.sequences.proofs.Table.{overwritten_holds}
use Rattle.numbering.specs.Numbering.{after_build}
use Rattle.numbering.proofs.Filled.{least_rooms, numbers_fill}
use Rattle.tree.specs.Build.{after_tags}
use Rattle.tree.proofs.Answered.{tags_room, numbers_filled, tags_filled}
use Rattle.tree.proofs.building.build.Goals as goal

pub write_tags-requires : goal.write_tags-requires
unfolding after_build
write_tags-requires c =
    let told = c.in_ok-built.ensures in
    let fills = numbers_fill _ _ _ _ _ (sym told.value) in
    let rooms = least_rooms _ _ _ _ _ _ _ fills.1 in
    let five = rooms.0 in
    let components = overwritten_holds _ _ _ _ five.components_room told.components_after in
    let depths = overwritten_holds _ _ _ _ five.depths_room told.depths_after in
    let ranks = overwritten_holds _ _ _ _ five.ranks_room told.ranks_after in
    let last_ranks = overwritten_holds _ _ _ _ five.last_ranks_room told.last_ranks_after in
    rw c.from-n.ensures (record {
      numbered = numbers_filled fills.0 _ fills.2 components depths ranks last_ranks;
      windows_in_bounds = tags_room _ _ rooms.1;
    })

pub returns-clause-tags_after : goal.returns-clause-tags_after
unfolding after_build after_tags
returns-clause-tags_after c =
    let told = c.in_ok-built.ensures in
    let fills = numbers_fill _ _ _ _ _ (sym told.value) in
    let five = (least_rooms _ _ _ _ _ _ _ fills.1).0 in
    let components = overwritten_holds _ _ _ _ five.components_room told.components_after in
    let depths = overwritten_holds _ _ _ _ five.depths_room told.depths_after in
    let ranks = overwritten_holds _ _ _ _ five.ranks_room told.ranks_after in
    let last_ranks = overwritten_holds _ _ _ _ five.last_ranks_room told.last_ranks_after in
    rw c.from-n.ensures at c.write_tags.ensures ∙ ap (overwritten _) (tags_filled fills.0 _ fills.2 components depths ranks last_ranks)
