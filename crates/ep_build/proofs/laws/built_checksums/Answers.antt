use Rattle.ep_build.proofs.BuiltFrameVerdictLemmas.{frame_is_valid, ip_header_is_valid}
use Rattle.ep_build.proofs.BuiltVerdictLemmas.{header_is_valid, message_is_valid}
use Rattle.ep_build.proofs.laws.built_checksums.Goals as goal

pub returns-clause-header : goal.returns-clause-header
returns-clause-header c = header_is_valid

pub returns-clause-message : goal.returns-clause-message
returns-clause-message c = message_is_valid

pub returns-clause-frames : goal.returns-clause-frames
returns-clause-frames c = frame_is_valid

pub returns-clause-ip_frames : goal.returns-clause-ip_frames
returns-clause-ip_frames c = ip_header_is_valid
