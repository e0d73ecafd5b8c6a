use Rattle.std.proofs.Common.{◌≡◌, ◌-◌, drop, take, arith, ◌∙◌}
use Rattle.std.proofs.lemmas.Grind.{common_steps}
use Rattle.std.proofs.lemmas.List.{append-nil, length-drop, take_all}
use Rattle.std.specs.Net.Text.{hex_groups_text}
use Rattle.line_io.proofs.ResultLemmas.{OnOk-appended}
use Rattle.packet_text.proofs.AddressLemmas.{compressed_groups, put_two, complete_groups}
use Rattle.packet_text.proofs.addresses.push_groups.Goals as goal
use Rattle.packet_text.proofs.addresses.push_groups.Goals.{then-run_len-gt1, else-run_len-gt1}

pub returns : goal.returns
returns c =
    let groups = c.args.groups.now in
    let run = c.longest_run-run_start.result in
    let start = c.if-run_len-gt1.start in
    let complete : take (42 - start) (drop start c.if-run_len-gt1.text) ≡ hex_groups_text groups =
    elim c.if-run_len-gt1.branch [
      | then-run_len-gt1 w ↦
          let tail = w.put_groups-tail in
          let first = w.put_groups-start.result in
          let text = w.put_groups-start.new.text in
          rw (w.text-is, w.start-is)
          (take_all (42 - first) (drop first text) (omega (arith, length-drop first text, w.put_groups-start.array_long))
          ∙ compressed_groups groups run _ _ _ c.longest_run-run_start.ensures.value w.if-run_len-gt1.true
          (omega (arith, c.told-groups)) tail.ensures.text
          (put_two tail.new.text tail.result 58 58
          (grind (arith, common_steps)) (omega (arith, tail.ensures.before, tail.array_long)))
          w.put_groups-start.ensures.text)
      | else-run_len-gt1 w ↦
          let first = w.put_groups-start-else-run_len-gt1.result in
          let text = w.put_groups-start-else-run_len-gt1.new.text in
          rw (w.text-is, w.start-is)
          (take_all (42 - first) (drop first text)
          (omega (arith, length-drop first text, w.put_groups-start-else-run_len-gt1.array_long))
          ∙ w.put_groups-start-else-run_len-gt1.ensures.text ∙ append-nil _
          ∙ complete_groups groups run c.longest_run-run_start.ensures.value w.if-run_len-gt1.false)
    ] in
    OnOk-appended c.extend_from_slice.result c.args.output.now.items c.extend_from_slice.new.self.items
    (take (42 - start) (drop start c.if-run_len-gt1.text)) _ c.extend_from_slice.ensures.items complete
