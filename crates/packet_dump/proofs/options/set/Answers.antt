-- The item of each value.
use Rattle.std.proofs.Common.{rules}
use Rattle.packet_dump.specs.Options.{count, explain, file, filter, fragment_age, fragment_bytes, limit, only, overlap, streams, time}
use Rattle.packet_dump.specs.Options.{timeout, write}
use Rattle.packet_dump.proofs.ValueLemmas.{explain_value, filter_value, input_value, write_value}
use Rattle.packet_dump.proofs.options.set.Goals as goal
use Rattle.packet_dump.proofs.options.set.Goals.{in-Count+in_ok-options-in-Count, in-Only+in_ok-ok_or-in-Only}
use Rattle.packet_dump.proofs.options.set.Goals.{in-Explain, in-Filter, in-Input, in-Write, in-Time+in_ok-options-in-Time}
use Rattle.packet_dump.proofs.options.set.Goals.{in-Streams+in_ok-options-in-Streams}
use Rattle.packet_dump.proofs.options.set.Goals.{in-FragmentBytes+in_ok-bytes-in-FragmentBytes}
use Rattle.packet_dump.proofs.options.set.Goals.{in-FragmentAge+in_ok-seconds-in-FragmentAge}
use Rattle.packet_dump.proofs.options.set.Goals.{in-Overlap+in_ok-policy-in-Overlap}
use Rattle.packet_dump.proofs.options.set.Goals.{in-Timeout+in_ok-options-in-Timeout, in-Limit+in_ok-options-in-Limit}

pub returns-clause-ok : goal.returns-clause-ok
returns-clause-ok c = elim c.match-option.branch [
  | in-Count+in_ok-options-in-Count w ↦ (count w.in_ok-options-in-Count.field-0, search rules, search rules)
  | in-Only+in_ok-ok_or-in-Only w ↦ (only w.in_ok-ok_or-in-Only.field-0, search rules, search rules)
  | in-Time+in_ok-options-in-Time w ↦ (time w.in_ok-options-in-Time.field-0, search rules, search rules)
  | in-Timeout+in_ok-options-in-Timeout w ↦ (timeout w.in_ok-options-in-Timeout.field-0, search rules, search rules)
  | in-Limit+in_ok-options-in-Limit w ↦ (limit w.in_ok-options-in-Limit.field-0, search rules, search rules)
  | in-Streams+in_ok-options-in-Streams w ↦ (streams w.in_ok-options-in-Streams.field-0, search rules, search rules)
  | in-FragmentBytes+in_ok-bytes-in-FragmentBytes w ↦ (
    fragment_bytes w.in_ok-bytes-in-FragmentBytes.bytes,
    search rules,
    search rules,
  )
  | in-FragmentAge+in_ok-seconds-in-FragmentAge w ↦ (
    fragment_age w.in_ok-seconds-in-FragmentAge.seconds,
    search rules,
    search rules,
  )
  | in-Overlap+in_ok-policy-in-Overlap w ↦ (overlap w.in_ok-policy-in-Overlap.policy, search rules, search rules)
  | in-Write w ↦ (write c.args.text.now, write_value c.args.option c.args.text.now w.in-Write.is, search rules)
  | in-Filter w ↦ (
    filter w.in-Filter.field-0 c.args.text.now,
    filter_value c.args.option w.in-Filter.field-0 c.args.text.now w.in-Filter.is,
    search rules,
  )
  | in-Input w ↦ (file c.args.text.now, input_value c.args.option c.args.text.now w.in-Input.is, search rules)
  | in-Explain w ↦ (explain c.args.text.now, explain_value c.args.option c.args.text.now w.in-Explain.is, search rules)
]
