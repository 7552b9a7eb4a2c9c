use Rattle.reaching.proofs.Reached.{component_found}
use Rattle.reaching.proofs.farthest.component_of.Goals as goal

pub returns : goal.returns
returns c =
    component_found _ c.args.tree.now.plan.accepted _ c.requires.at_bound _ _ _ _ _ c.root_of-root.ensures c.levels_from-levels.ensures
    c.top_of-top.ensures.top
