use Rattle.filter_language.proofs.change.layer_word_change.Goals as goal

pub returns-in-Arp-clause-apt : goal.returns-in-Arp-clause-apt
returns-in-Arp-clause-apt c = c.address_change.ensures.apt c.args.layer

pub returns-in-Tcp-clause-apt : goal.returns-in-Tcp-clause-apt
returns-in-Tcp-clause-apt c = c.port_change.ensures.apt c.args.layer

pub returns-in-Udp-clause-apt : goal.returns-in-Udp-clause-apt
returns-in-Udp-clause-apt c = c.port_change-in-Udp.ensures.apt c.args.layer

pub returns-in-Sctp-clause-apt : goal.returns-in-Sctp-clause-apt
returns-in-Sctp-clause-apt c = c.port_change-in-Sctp.ensures.apt c.args.layer
