use Rattle.std.proofs.Common.{refl}
use Rattle.std.specs.Fmt.{digits}
use Rattle.hub_http.specs.Texts.{head_text, status_line, chunked_line, close_line, type_line}
use Rattle.hub_http.proofs.fixed.stream_head_text.Goals as goal

pub returns-then-close : goal.returns-then-close
unfolding head_text status_line chunked_line close_line type_line digits
returns-then-close c = rw c.if-close.true refl

pub returns-else-close : goal.returns-else-close
unfolding head_text status_line chunked_line close_line type_line digits
returns-else-close c = rw c.if-close.false refl
