use Rattle.std.proofs.Common.{Some, Result, subst, rules}
use Rattle.std.proofs.lemmas.Result.{on_ok_weaker}
use Rattle.etherparse.specs.Types.TcpOptionElement.{TcpOptionElement}
use Rattle.etherparse.specs.Types.TcpOptionReadError.{TcpOptionReadError}
use Rattle.etherparse.specs.TcpOptionBytes.{GivesItem}
use Rattle.etherparse.specs.TcpOptionSteps.{options_left}
use Rattle.packet_text.proofs.TcpLemmas.{goes_on, ends, stops}
use Rattle.packet_text.proofs.tcp_details.push_options.Goals as goal

pub loop-item-preserved : goal.loop-item-preserved
loop-item-preserved c =
    let left = options_left c.loop-item.item-iterator in
    let after = options_left c.next.new.self in
    let gives =
    subst (λ (item : Result TcpOptionElement TcpOptionReadError). GivesItem left (Some item) after) c.in-Ok.is
    c.in-Some.ensures.steps in (
      goes_on c.args.output.now.items c.loop-item.output.items c.push_option.new.output.items
          (options_left c.args.options) left after c.in-Ok.option c.loop-item.invariant.0 gives
          c.in_ok-push_option-in-Ok.ensures,
      search rules,
      search rules,
    )

pub returns-in-Err : goal.returns-in-Err
returns-in-Err c =
    let left = options_left c.loop-item.item-iterator in
    let after = options_left c.next.new.self in
    let gives =
    subst (λ (item : Result TcpOptionElement TcpOptionReadError). GivesItem left (Some item) after) c.in-Err.is
    c.in-Some.ensures.steps in
    on_ok_weaker c.push_unread_option.result
    (stops c.args.output.now.items c.loop-item.output.items c.push_unread_option.new.output.items
    (options_left c.args.options) left c.in-Err.error c.loop-item.invariant.0 gives.0) c.push_unread_option.ensures

pub returns : goal.returns
returns c =
    ends c.args.output.now.items c.loop-item.output.items (options_left c.args.options)
    (options_left c.loop-item.item-iterator) c.loop-item.invariant.0 c.in-None.ensures.steps.0
