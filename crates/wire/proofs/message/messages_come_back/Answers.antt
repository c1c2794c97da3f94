use Rattle.wire.proofs.Written.{reads_back, writes_back}
use Rattle.wire.proofs.message.messages_come_back.Goals as goal

pub returns : goal.returns
returns c = record { reads_back = reads_back; writes_back = writes_back }
