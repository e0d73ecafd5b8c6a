use Rattle.capture_reader.proofs.ReaderLemmas.{advances, holds_few, keeps_total, never_back, reads_some}
use Rattle.capture_reader.proofs.reader.CaptureReader.advance.Goals as goal

pub returns-clause-reads : goal.returns-clause-reads
returns-clause-reads c = advances _ _ _ c.step.ensures

pub returns-clause-total : goal.returns-clause-total
returns-clause-total c = keeps_total _ _ _ c.step.ensures

pub returns-clause-grows : goal.returns-clause-grows
returns-clause-grows c = never_back _ _ _ c.step.ensures

pub returns-clause-less : goal.returns-clause-less
returns-clause-less c = reads_some _ _ _ c.step.ensures

pub returns-clause-memory : goal.returns-clause-memory
returns-clause-memory c = holds_few _ _ _ c.step.ensures
