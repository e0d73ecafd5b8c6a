use Rattle.std.proofs.Common.{subst}
use Rattle.filter_tokens.proofs.ValueLemmas.{none_is_some}
use Rattle.filter_language.specs.declared.head.Head.{Head}
use Rattle.filter_language.specs.Grammar.{IsWordValue}
use Rattle.filter_language.proofs.WordValueLemmas.{no_ether_type, no_port, no_protocol, no_range}
use Rattle.filter_language.proofs.words.word_value.Goals as goal

pub returns-in-None-port-clause-none : goal.returns-in-None-port-clause-none
returns-in-None-port-clause-none c = λ p stated.
    no_port c.in-Port.ports c.in-Port.side c.args.word.now (λ port text. none_is_some (c.in-None-port.ensures.only port text)) p
    (subst (λ (h : Head). IsWordValue h c.args.word.now p) c.in-Port.is stated)

pub returns-in-None-port_range-clause-none : goal.returns-in-None-port_range-clause-none
returns-in-None-port_range-clause-none c = λ p stated.
    no_range c.in-PortRange.ports c.in-PortRange.side c.args.word.now (λ low high text. none_is_some (c.in-None-port_range.ensures.only low high text)) p
    (subst (λ (h : Head). IsWordValue h c.args.word.now p) c.in-PortRange.is stated)

pub returns-in-None-byte_number-clause-none : goal.returns-in-None-byte_number-clause-none
returns-in-None-byte_number-clause-none c = λ p stated.
    no_protocol c.in-Protocol.version c.args.word.now (λ number text. none_is_some (c.in-None-byte_number.ensures.only number text)) p
    (subst (λ (h : Head). IsWordValue h c.args.word.now p) c.in-Protocol.is stated)

pub returns-in-None-ether_type-clause-none : goal.returns-in-None-ether_type-clause-none
returns-in-None-ether_type-clause-none c = λ p stated.
    no_ether_type c.args.word.now (λ number text. none_is_some (c.in-None-ether_type.ensures.only number text)) p
    (subst (λ (h : Head). IsWordValue h c.args.word.now p) c.in-EtherType.is stated)
