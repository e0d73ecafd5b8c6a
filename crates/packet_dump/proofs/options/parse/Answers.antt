-- The result is the answer of the parser to all arguments, or the allocation failed.
use Rattle.std.proofs.Common.{Err, Ok, ap, inl, inr, sym, ◌∙◌}
use Rattle.packet_dump.specs.Options.{Fault, answer_of, asked_of, fault_of, texts}
use Rattle.packet_dump.specs.OptionSteps.{reading_state}
use Rattle.packet_dump.proofs.OptionLemmas.{Answers, asked_from, err_from, goes_on, ok_from, refused_from, runs_out}
use Rattle.packet_dump.proofs.OptionLemmas.{stops}
use Rattle.packet_dump.proofs.options.parse.Goals as goal

pub loop-word-preserved : goal.loop-word-preserved
loop-word-preserved c =
    goes_on c.args.words.now c.loop-word.word-index c.word-item.result c.as_str.result.now
    (reading_state c.loop-word.reading) (reading_state c.push.new.self) c.loop-word-test.true c.word-item.is
    c.as_str.ensures.value (rw c.in-Ok-None.field-0-is at c.in-Ok-None.ensures) c.loop-word.invariant

pub returns-in-Err : goal.returns-in-Err
returns-in-Err c =
    let answer : Answers (texts c.args.words.now) (answer_of (Err c.in-Err.error)) =
    elim c.in-Err.ensures [
      | inl failed ↦ inl (ap (λ (f : Fault). Err f) failed)
      | inr steps ↦ inr (stops c.args.words.now c.loop-word.word-index c.word-item.result c.as_str.result.now
          (reading_state c.loop-word.reading) (Err (fault_of c.in-Err.error)) c.loop-word-test.true
          c.word-item.is c.as_str.ensures.value steps c.loop-word.invariant)
    ] in
    record {
      ok = ok_from (texts c.args.words.now) (Err c.in-Err.error) answer;
      err = err_from (texts c.args.words.now) (Err c.in-Err.error) answer;
      asked = asked_from (texts c.args.words.now) (answer_of (Err c.in-Err.error)) answer;
      refused = refused_from (texts c.args.words.now) (answer_of (Err c.in-Err.error)) answer;
    }

pub returns-in-Ok-Some : goal.returns-in-Ok-Some
returns-in-Ok-Some c =
    let gives = rw c.in-Ok-Some.field-0-is at c.in-Ok-Some.ensures in
    let answer : Answers (texts c.args.words.now) (answer_of (Ok c.in-Ok-Some.request)) =
    inr (stops c.args.words.now c.loop-word.word-index c.word-item.result c.as_str.result.now
    (reading_state c.loop-word.reading) (Ok (asked_of c.in-Ok-Some.request)) c.loop-word-test.true
    c.word-item.is c.as_str.ensures.value gives c.loop-word.invariant) in
    record {
      ok = ok_from (texts c.args.words.now) (Ok c.in-Ok-Some.request) answer;
      err = err_from (texts c.args.words.now) (Ok c.in-Ok-Some.request) answer;
      asked = asked_from (texts c.args.words.now) (answer_of (Ok c.in-Ok-Some.request)) answer;
      refused = refused_from (texts c.args.words.now) (answer_of (Ok c.in-Ok-Some.request)) answer;
    }

pub returns : goal.returns
returns c =
    let answer : Answers (texts c.args.words.now) (answer_of c.finish.result) =
    inr (runs_out c.args.words.now c.loop-word.word-index (reading_state c.loop-word.reading) c.loop-word-test.false
    c.loop-word.invariant
    ∙ sym c.finish.ensures) in
    record {
      ok = ok_from (texts c.args.words.now) c.finish.result answer;
      err = err_from (texts c.args.words.now) c.finish.result answer;
      asked = asked_from (texts c.args.words.now) (answer_of c.finish.result) answer;
      refused = refused_from (texts c.args.words.now) (answer_of c.finish.result) answer;
    }
