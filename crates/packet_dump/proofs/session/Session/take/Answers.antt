use Rattle.std.proofs.Common.{◌++◌, drop, take}
use Rattle.std.proofs.lemmas.Result.{on_ok_weaker}
use Rattle.packet_dump.proofs.SessionLemmas.{processed_same}
use Rattle.packet_dump.proofs.session.Session.take.Goals as goal

pub returns-clause-processed : goal.returns-clause-processed
returns-clause-processed c =
    let self = c.args.self.now in
    on_ok_weaker c.exchange.result
    (λ more options read written was.
    processed_same options self (record self { capture = c.exchange.new.self }) read
    (read ++ take c.args.count (drop c.args.start c.args.buffer.now.items)) written
    written.saved was (more read was.items was.has_read.reads) was.saves) c.exchange.ensures.ok
