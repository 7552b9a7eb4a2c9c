-- `even_tags::tagging::write_short_tags` meets its contract. The loop's invariant is `Tagged`.

use Rattle.tag_bytes.specs.TagFile.{short_tag_file}
use Rattle.tag_bytes.proofs.Tagged.{tagged_start, short_turn, tagged_end}
use Rattle.even_tags.proofs.tagging.write_short_tags.Goals as goal

pub loop-position-init : goal.loop-position-init
loop-position-init c = tagged_start _ _ _ _

pub loop-position-preserved : goal.loop-position-preserved
loop-position-preserved c = let h = c.loop-position-test.true in
    short_turn _ _ _ h (c.requires.numbered.fit _ h) _ _ _ _ c.requires.windows_in_bounds c.write.ensures.value c.write.ensures.out_after c.loop-position.invariant

pub returns : goal.returns
unfolding short_tag_file
returns c = tagged_end _ _ _ _ _ _ c.loop-position-test.false c.loop-position.invariant
