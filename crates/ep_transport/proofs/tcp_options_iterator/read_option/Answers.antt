use Rattle.std.proofs.Common.{◌≡◌, ◌-◌, [], ◌∷◌, length, take, drop, sym, subst, arith}
use Rattle.std.proofs.lemmas.List.{take_all, length-drop}
use Rattle.ep_base.specs.Bytes.{AreBytes}
use Rattle.ep_transport.specs.declared.tcp_option_element.TcpOptionElement.TheVariants.{SelectiveAcknowledgement, Timestamp}
use Rattle.ep_transport.specs.TcpOptionBytes.{IsOption}
use Rattle.ep_transport.proofs.TcpOptionReadLemmas.{timestamp_present, blocks_present}
use Rattle.ep_transport.proofs.tcp_options_iterator.read_option.Goals as goal

pub returns-in_ok-size-in-5-clause-ok : goal.returns-in_ok-size-in-5-clause-ok
returns-in_ok-size-in-5-clause-ok c =
    let bytes = c.args.options.now in
    let fits : AreBytes bytes = λ i. omega (arith, c.type_inv.options i) in
    let size = c.in_ok-size-in-5.size in
    let checked = c.in_ok-size-in-5.ensures in
    let is = blocks_present bytes size fits c.in-5.is (sym checked.0) checked.1 checked.2 in
    let rest : drop size bytes ≡ take (length bytes - size) (drop size bytes) =
    sym (take_all (length bytes - size) (drop size bytes) (omega (arith, length-drop size bytes))) in
    let first = sym c.block.ensures in
    let second = sym c.block_within.ensures in
    let third = sym c.block_within-in-5.ensures in
    let fourth = sym c.block_within-in-5-2.ensures in
    subst (IsOption bytes) (λ i. (SelectiveAcknowledgement (first i) (second i ∷ third i ∷ fourth i ∷ []), rest i)) is

pub returns-in_ok-check_size-in-8-clause-ok : goal.returns-in_ok-check_size-in-8-clause-ok
returns-in_ok-check_size-in-8-clause-ok c =
    let bytes = c.args.options.now in
    let fits : AreBytes bytes = λ i. omega (arith, c.type_inv.options i) in
    let size = c.in_ok-check_size-in-8.ensures in
    let is = timestamp_present bytes fits size.0 c.in-8.is size.1 in
    let rest : drop 10 bytes ≡ take (length bytes - 10) (drop 10 bytes) =
    sym (take_all (length bytes - 10) (drop 10 bytes) (omega (arith, length-drop 10 bytes))) in
    let times = sym c.block-time.ensures in
    subst (IsOption bytes) (λ i. (Timestamp (times i).0 (times i).1, rest i)) is
