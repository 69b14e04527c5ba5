use Rattle.std.proofs.Common.{refl}
use Rattle.std.specs.Fmt.{digits}
use Rattle.hub_http.specs.Texts.{chunk_text}
use Rattle.hub_session.proofs.feed.head_chunk.Goals as goal

pub returns-in-Normal : goal.returns-in-Normal
unfolding chunk_text digits
returns-in-Normal c = rw c.in-Normal.is refl

pub returns-in-Longpoll : goal.returns-in-Longpoll
unfolding chunk_text digits
returns-in-Longpoll c = rw c.in-Longpoll.is refl
