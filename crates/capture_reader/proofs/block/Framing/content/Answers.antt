use Rattle.std.proofs.Common.{arith}
use Rattle.capture_reader.proofs.ContentLemmas.{other_content}
use Rattle.capture_reader.proofs.block.Framing.content.Goals as goal

pub section-requires : goal.section-requires
section-requires c = let least = rw c.in-SectionHeader.is at c.requires in omega (arith, least)

pub returns-in-SectionHeader-clause-ok : goal.returns-in-SectionHeader-clause-ok
returns-in-SectionHeader-clause-ok c = rw c.in-SectionHeader.is c.section.ensures.ok

pub returns-in-SectionHeader-clause-err : goal.returns-in-SectionHeader-clause-err
returns-in-SectionHeader-clause-err c = rw c.in-SectionHeader.is c.section.ensures.err

pub interface-requires : goal.interface-requires
interface-requires c = let least = rw c.in-InterfaceDescription.is at c.requires in omega (arith, least)

pub returns-in-InterfaceDescription-clause-ok : goal.returns-in-InterfaceDescription-clause-ok
returns-in-InterfaceDescription-clause-ok c = rw c.in-InterfaceDescription.is c.interface.ensures.ok

pub returns-in-InterfaceDescription-clause-err : goal.returns-in-InterfaceDescription-clause-err
returns-in-InterfaceDescription-clause-err c = rw c.in-InterfaceDescription.is c.interface.ensures.err

pub simple-requires : goal.simple-requires
simple-requires c = let least = rw c.in-SimplePacket.is at c.requires in omega (arith, least)

pub returns-in-SimplePacket-clause-ok : goal.returns-in-SimplePacket-clause-ok
returns-in-SimplePacket-clause-ok c = rw c.in-SimplePacket.is c.simple.ensures.ok

pub returns-in-SimplePacket-clause-err : goal.returns-in-SimplePacket-clause-err
returns-in-SimplePacket-clause-err c = rw c.in-SimplePacket.is c.simple.ensures.err

pub enhanced-requires : goal.enhanced-requires
enhanced-requires c = let least = rw c.in-EnhancedPacket.is at c.requires in omega (arith, least)

pub returns-in-EnhancedPacket-clause-ok : goal.returns-in-EnhancedPacket-clause-ok
returns-in-EnhancedPacket-clause-ok c = rw c.in-EnhancedPacket.is c.enhanced.ensures.ok

pub returns-in-EnhancedPacket-clause-err : goal.returns-in-EnhancedPacket-clause-err
returns-in-EnhancedPacket-clause-err c = rw c.in-EnhancedPacket.is c.enhanced.ensures.err

pub obsolete-requires : goal.obsolete-requires
obsolete-requires c = let least = rw c.in-ObsoletePacket.is at c.requires in omega (arith, least)

pub returns-in-ObsoletePacket-clause-ok : goal.returns-in-ObsoletePacket-clause-ok
returns-in-ObsoletePacket-clause-ok c = rw c.in-ObsoletePacket.is c.obsolete.ensures.ok

pub returns-in-ObsoletePacket-clause-err : goal.returns-in-ObsoletePacket-clause-err
returns-in-ObsoletePacket-clause-err c = rw c.in-ObsoletePacket.is c.obsolete.ensures.err

pub returns-in-Other-clause-ok : goal.returns-in-Other-clause-ok
returns-in-Other-clause-ok c =
    let frame = c.args.self.now in
    rw c.in-Other.is (other_content c.args.interfaces.now frame.order frame.len c.args.body.now)
