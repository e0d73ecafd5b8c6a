use Rattle.std.proofs.Common.{append_assoc, sym, ◌∙◌}
use Rattle.std.proofs.lemmas.Result.{on_ok_weaker}
use Rattle.packet_dump.proofs.DecodedLemmas.{hidden_line}
use Rattle.packet_dump.proofs.packet_lines.append_line.Goals as goal

pub returns-then-not-is_shown : goal.returns-then-not-is_shown
returns-then-not-is_shown c =
    hidden_line c.args.options.now c.args.packet.now c.args.output.now.items
    (sym c.is_shown.ensures ∙ c.if-not-is_shown.true)

pub returns : goal.returns
returns c =
    let appended = c.in_ok-push_content.ensures in
    on_ok_weaker c.push_end.result
    (λ ended. (
      appended.0,
      appended.1,
      ended ∙ rw (appended.2, c.in_ok-push_start.ensures, sym c.is_shown.ensures ∙ c.if-not-is_shown.false)
          (simp append_assoc),
    )) c.push_end.ensures
