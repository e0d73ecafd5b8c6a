use Rattle.std.proofs.Common.{ℕ, List, ap, map, ◌∙◌}
use Rattle.std.proofs.lemmas.Result.{on_ok_weaker}
use Rattle.std.specs.Str.{bytes_eq}
use Rattle.packet_dump.specs.Summaries.{plain_count, with_one}
use Rattle.packet_dump.proofs.SummaryLemmas.{named}
use Rattle.packet_dump.proofs.summary.Refusals.count.Goals as goal

pub returns : goal.returns
returns c =
    let errors = c.args.self.now.errors.items in
    on_ok_weaker c.count_key.result
    (λ counted. let by_name = ap (map plain_count) counted ∙ named c.error_name.result errors
    ∙ ap (λ (n : List ℕ). with_one bytes_eq n (map plain_count errors)) c.error_name.ensures in
    λ i. record { all = c.more.ensures i; errors = by_name i }) c.count_key.ensures
