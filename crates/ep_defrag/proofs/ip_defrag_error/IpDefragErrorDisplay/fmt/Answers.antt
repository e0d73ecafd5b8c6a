use Rattle.ep_defrag.proofs.ip_defrag_error.IpDefragErrorDisplay.fmt.Goals as goal

pub returns-in-UnalignedFragmentPayloadLen-clause-writes : goal.returns-in-UnalignedFragmentPayloadLen-clause-writes
returns-in-UnalignedFragmentPayloadLen-clause-writes g c plain ok =
    rw (c.in-UnalignedFragmentPayloadLen.is, ← c.value-offset.ensures.value) (c.write.ensures.writes plain ok)

pub returns-in-SegmentTooBig-clause-writes : goal.returns-in-SegmentTooBig-clause-writes
returns-in-SegmentTooBig-clause-writes g c plain ok =
    rw (c.in-SegmentTooBig.is, ← c.value-offset-in-SegmentTooBig.ensures.value)
    (c.write-in-SegmentTooBig.ensures.writes plain ok)

pub returns-in-ConflictingEnd-clause-writes : goal.returns-in-ConflictingEnd-clause-writes
returns-in-ConflictingEnd-clause-writes g c plain ok =
    rw c.in-ConflictingEnd.is (c.write-in-ConflictingEnd.ensures.writes plain ok)

pub returns-in-AllocationFailure-clause-writes : goal.returns-in-AllocationFailure-clause-writes
returns-in-AllocationFailure-clause-writes g c plain ok =
    rw c.in-AllocationFailure.is (c.write-in-AllocationFailure.ensures.writes plain ok)
