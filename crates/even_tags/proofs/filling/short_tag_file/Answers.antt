-- What the parents' call leaves is what the passes are handed.
use Rattle.std.proofs.Common.{sym}
use Rattle.sequences.proofs.Table.{overwritten_holds}
use Rattle.minutes.specs.SingleTable.{after_table}
use Rattle.even_tags.proofs.Shortened.{short_fills}
use Rattle.even_tags.proofs.filling.short_tag_file.Goals as goal

pub tag_windows-requires : goal.tag_windows-requires
unfolding after_table
tag_windows-requires c =
    let told = c.in_ok-windows.ensures in
    let fills = short_fills _ _ _ (sym told.value) in
    record {
      parented = record { accepted = fills.0; held = overwritten_holds _ _ _ _ fills.1 told.parents_after };
      windows_in_bounds = fills.2;
    }
