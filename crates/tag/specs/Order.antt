-- A tag's depth, rank and rank of the last as one number, which the code compares instead of the three; no public promise cites it.
-- Vocabulary: order_of, in_order.
use Rattle.std.specs.Prelude.{ℕ, ◌+◌, ◌*◌, ◌/◌, ◌%◌}
use Rattle.interval_graph.specs.Numbers.{Numbers}

abbrev pub order_of : Numbers → ℕ
order_of n = 4294967296 * n.depth + 65536 * n.rank + n.last

-- The three back from their number, with 0 for what the rule does not count with.
abbrev pub in_order : ℕ → Numbers
in_order x = record { plan = 0; component = 0; depth = x / 4294967296; rank = x / 65536 % 65536; last = x % 65536 }
