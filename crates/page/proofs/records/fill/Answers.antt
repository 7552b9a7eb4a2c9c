-- `page::records::fill` meets its contract: it is the loop of `Filling`, over those records of any type that are to be filled.
use Rattle.std.proofs.Common.{◌≡◌, ◌<◌, length, refl, arith, take}
use Rattle.std.proofs.lemmas.List.{length-take}
use Rattle.page.specs.Page.{page_answer_of, to_fill}
use Rattle.page.proofs.Filled.{up_to, to_fill_few}
use Rattle.page.proofs.Filling.{walk, meets, filled_whole, filled_again, in_part}
use Rattle.page.proofs.records.fill.Goals as goal

pub loop-record-init : goal.loop-record-init
unfolding up_to
loop-record-init g c = refl

pub loop-record-preserved : goal.loop-record-preserved
loop-record-preserved g c =
    let tags = c.args.tags.now in let records = c.args.records.now in let loop = c.loop-record in let item = c.record-item in
    let within : loop.record-index < to_fill (page_answer_of tags) (length records) =
    omega (arith, length-take c.to_fill-count.result records, c.to_fill-count.ensures) in
    let whole = filled_whole tags _ _ within in
    walk (g.R.Record.filled tags) _ _ _ loop.invariant item.result _ (c.answered.ensures.of_whole_tags whole) (omega arith)

pub returns-clause-records_after : goal.returns-clause-records_after
returns-clause-records_after g c =
    let tags = c.args.tags.now in let records = c.args.records.now in let f = g.R.Record.filled tags in let loop = c.loop-record in
    let answer = page_answer_of tags in let count = c.to_fill-count.result in let fills = c.to_fill-count.ensures in
    let long : length (take count records) ≡ count = omega (arith, length-take count records, to_fill_few answer (length records), fills) in
    let all : loop.record-index ≡ length (take count records) = omega arith in
    in_part f records _ answer count fills
    (meets f _ _ _ loop.invariant tags f (λ w x. refl) count (rw long (filled_again answer (length records) count fills)) (omega (arith, all, long))
    (omega (arith, all, long)))
