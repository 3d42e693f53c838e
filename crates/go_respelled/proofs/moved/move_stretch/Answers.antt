-- One more token, moved by the same cursor.
use Rattle.go_respelled.proofs.Walked.{moved_more, next_token}
use Rattle.go_respelled.proofs.moved.move_stretch.Goals as goal
