-- `even_tags::filling::tag_windows` meets its contract: the passes over the parents fill the tables that short tags are made of.
use Rattle.std.proofs.Common.{refl}
use Rattle.sequences.proofs.Table.{overwritten_holds}
use Rattle.plan.specs.File.{plan_number}
use Rattle.plan.proofs.Counted.{windows_few}
use Rattle.forest.proofs.Parented.{covered_all, covered_three}
use Rattle.numbering.proofs.Filled.{roots_counted, components_filled, depths_filled, ranks_filled}
use Rattle.even_tags.proofs.Shortened.{short_numbered, short_filled}
use Rattle.even_tags.proofs.filling.tag_windows.Goals as goal

pub returns : goal.returns
unfolding plan_number
returns c = let p = c.requires.parented.accepted in
    let few = windows_few p in
    let parents = c.requires.parented.held in
    let levels-1 = rw (c.from-n.ensures, covered_three _ _ _ _ few parents.long few few) at c.fill_levels-found.ensures.value in
    let levels-2 = rw (c.from-n.ensures, covered_three _ _ _ _ few parents.long few few) at c.fill_levels-found.ensures.components_after in
    let levels-3 = rw (c.from-n.ensures, covered_three _ _ _ _ few parents.long few few) at c.fill_levels-found.ensures.depths_after in
    let components = overwritten_holds _ _ _ _ few (components_filled p parents _ _ levels-2) in
    let depths = overwritten_holds _ _ _ _ few (depths_filled p parents _ _ levels-3) in
    let ranks = overwritten_holds _ _ _ _ few (ranks_filled p parents _ _ (rw (c.from-n.ensures, covered_all _ _ _ few parents.long few) at c.fill_ranks.ensures)) in
    record {
      value = rw (c.read_u16-plan.ensures, roots_counted p parents _ levels-1) refl;
      tags_after = rw (c.from-n.ensures, short_filled p _ c.read_u16-plan.ensures components depths ranks) at c.write_short_tags.ensures;
    }

pub write_short_tags-requires-clause-numbered : goal.write_short_tags-requires-clause-numbered
unfolding plan_number
write_short_tags-requires-clause-numbered c = let p = c.requires.parented.accepted in
    let few = windows_few p in
    let parents = c.requires.parented.held in
    let levels-2 = rw (c.from-n.ensures, covered_three _ _ _ _ few parents.long few few) at c.fill_levels-found.ensures.components_after in
    let levels-3 = rw (c.from-n.ensures, covered_three _ _ _ _ few parents.long few few) at c.fill_levels-found.ensures.depths_after in
    let components = overwritten_holds _ _ _ _ few (components_filled p parents _ _ levels-2) in
    let depths = overwritten_holds _ _ _ _ few (depths_filled p parents _ _ levels-3) in
    let ranks = overwritten_holds _ _ _ _ few (ranks_filled p parents _ _ (rw (c.from-n.ensures, covered_all _ _ _ few parents.long few) at c.fill_ranks.ensures)) in
    rw c.from-n.ensures (short_numbered p _ c.read_u16-plan.ensures components depths ranks)
