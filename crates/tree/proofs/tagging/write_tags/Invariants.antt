use Rattle.tag_bytes.specs.Fields.{tag_bytes}
use Rattle.tag_bytes.proofs.Tagged.{Tagged}
use Rattle.tree.specs.Tagging.{numbers_in}
use Rattle.tree.proofs.tagging.write_tags.Given as goal

abbrev pub invariant-loop-position : goal.invariant-loop-position
invariant-loop-position l = Tagged tag_bytes
    (numbers_in l.plan l.components l.depths l.ranks l.last_ranks) l.windows l.initial.tags l.tags l.position
