use Rattle.tag_bytes.specs.Fields.{short_bytes}
use Rattle.tag_bytes.proofs.Tagged.{Tagged}
use Rattle.even_tags.specs.Tagging.{short_numbers_in}
use Rattle.even_tags.proofs.tagging.write_short_tags.Given as goal

abbrev pub invariant-loop-position : goal.invariant-loop-position
invariant-loop-position l = Tagged short_bytes
    (short_numbers_in l.plan l.components l.depths l.ranks) l.windows l.initial.tags l.tags l.position
