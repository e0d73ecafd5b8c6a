use Rattle.ep_defrag.proofs.BoundedWritingLemmas.{written_more, written_all}
use Rattle.ep_defrag.proofs.ip_defrag_bytes.write_missing.Goals as goal

pub loop-section-preserved : goal.loop-section-preserved
loop-section-preserved c =
    written_more c.args.bytes.now.items c.args.sections.now c.args.range c.args.payload.now c.requires.separate
    c.loop-section.bytes.items c.write_part.new.bytes.items c.loop-section.from c.loop-section.section-index
    c.max-from.result _ c.loop-section-test.true (c.requires.within _ _ c.loop-section-test.true)
    c.loop-section.invariant c.write_part.ensures.len c.write_part.ensures.items c.max-from.ensures

pub returns-clause-items : goal.returns-clause-items
returns-clause-items c =
    written_all c.args.bytes.now.items c.args.sections.now c.args.range c.args.payload.now c.requires.separate
    c.loop-section.bytes.items c.write_part-2.new.bytes.items c.loop-section.from c.loop-section.section-index
    c.loop-section-test.false c.loop-section.invariant c.write_part-2.ensures.len c.write_part-2.ensures.items
