-- `numbering::filling::fill_numbers` meets its contract where it is not refused: each table as the passes leave it.
use Rattle.std.proofs.Common.{sym}
use Rattle.sequences.proofs.Table.{overwritten_holds}
use Rattle.plan.specs.File.{plan_number}
use Rattle.plan.proofs.Counted.{windows_few}
use Rattle.forest.proofs.Parented.{covered_one, covered_all, covered_three}
use Rattle.minutes.specs.SingleTable.{after_table}
use Rattle.minutes.proofs.SingleTabled.{table_fills}
use Rattle.numbering.specs.Numbering.{after_build}
use Rattle.numbering.proofs.Filled.{least_rooms, roots_counted, components_filled, depths_filled, ranks_filled, last_ranks_filled, numbers_built}
use Rattle.numbering.proofs.filling.fill_numbers.Goals as goal

pub returns : goal.returns
unfolding after_build after_table plan_number
returns c =
    let asked = rw (c.min-least.ensures, c.min-2.ensures, c.min.ensures) at c.in_ok-windows.ensures.value in
    let fills = table_fills _ _ _ (sym asked) in
    let p = fills.0 in
    let few = windows_few p in
    let rooms = (least_rooms _ _ _ _ _ _ _ fills.1).0 in
    let written = c.in_ok-windows.ensures.parents_after in
    let first = c.in_ok-windows.ensures.lasts_after in
    let parents = overwritten_holds _ _ _ _ rooms.parents_room written in
    let lasts = overwritten_holds _ _ _ _ rooms.last_ranks_room first in
    let counted = rw (c.from-n.ensures, covered_three _ _ _ _ few parents.long rooms.components_room rooms.depths_room) at c.fill_levels-found.ensures.value in
    let components = rw (c.from-n.ensures, covered_three _ _ _ _ few parents.long rooms.components_room rooms.depths_room) at c.fill_levels-found.ensures.components_after in
    let depths = rw (c.from-n.ensures, covered_three _ _ _ _ few parents.long rooms.components_room rooms.depths_room) at c.fill_levels-found.ensures.depths_after in
    let ranks = ranks_filled p parents _ _ (rw (c.from-n.ensures, covered_all _ _ _ few parents.long rooms.ranks_room) at c.fill_ranks.ensures) in
    let looked = rw (c.from-n.ensures, covered_one _ _ few lasts.long) at c.look_up.ensures in
    record {
      value = numbers_built _ _ _ _ _ asked c.read_u16.ensures (roots_counted p parents _ counted);
      parents_after = written;
      components_after = components_filled p parents _ _ components;
      depths_after = depths_filled p parents _ _ depths;
      ranks_after = ranks;
      last_ranks_after = last_ranks_filled p lasts (overwritten_holds _ _ _ _ rooms.ranks_room ranks) _ _ first looked;
    }
