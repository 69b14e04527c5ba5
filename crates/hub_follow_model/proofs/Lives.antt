-- No event changes the source's life.
use Rattle.std.proofs.Common.{◌≡◌, ◌∙◌, ℕ, List, Option, Some, None, MatchOption, inl, inr, ap}
use Rattle.hub_follow_model.specs.Follower.{Source, Target, Call, LocalGet, Changes, RevsDiff, OpenRevs}
use Rattle.hub_follow_model.specs.Follower.{Merge, LocalPut, Answer, LogAnswer, ChangesAnswer}
use Rattle.hub_follow_model.specs.Follower.{RevsDiffAnswer, OpenRevsAnswer, MergeAnswer, PutAnswer}
use Rattle.hub_follow_model.specs.Follower.{Follower, next_call, after_answer, after_failure}
use Rattle.hub_follow_model.specs.Laws.{LifeStays}
use Rattle.hub_follow_model.specs.World.{World, IsAnswered, IsPartialMerge, IsChangesReply, Write}
use Rattle.hub_follow_model.specs.World.{InteractiveWrite, Start, Round, Checkpoint, Reply}
use Rattle.hub_follow_model.specs.World.{ChangesReply, LossBefore, LossAfter, PartialMerge, Restart}
use Rattle.hub_model.specs.RightlyHanded.{ChangeItem}

abbrev life_of : World → ℕ
life_of world = world.life

-- an answered call keeps the source's life
answered : (world : World) (call : Call) (answer : Answer) (mid : World) → IsAnswered world call answer mid
    → mid.life ≡ world.life
answered world (LocalGet side) (LogAnswer log) mid h = ap life_of h.1
answered world (Changes since) (ChangesAnswer rows last life) mid h = ap life_of h.2
answered world (RevsDiff asked) (RevsDiffAnswer missed) mid h = ap life_of h.1
answered world (OpenRevs id revs) (OpenRevsAnswer docs) mid h = ap life_of h.1
answered world (Merge docs) (MergeAnswer outcomes) mid h = ap life_of h.1
answered world (LocalPut Source log) PutAnswer mid h = ap life_of h
answered world (LocalPut Target log) PutAnswer mid h = ap life_of h
answered world call answer mid h = absurd h

-- the owed call keeps the source's life, whatever becomes of its answer
behind : (world : World) (next : Option Call) (after : Answer → Follower) (new : World)
    → MatchOption next (new ≡ world)
    (λ call. (answer : Answer) × (mid : World) × IsAnswered world call answer mid
    × (new ≡ record mid { follower = after answer }))
    → new.life ≡ world.life
behind world None after new h = ap life_of h
behind world (Some call) after new (answer, mid, h, e) = ap life_of e ∙ answered world call answer mid h

-- a merge that stops keeps the source's life
stopped : (world : World) (next : Option Call) (count : ℕ) (new : World) → IsPartialMerge world next count new
    → new.life ≡ world.life
stopped world (Some (Merge docs)) count new h = ap life_of h
stopped world None count new h = ap life_of h
stopped world (Some (LocalGet side)) count new h = ap life_of h
stopped world (Some (Changes since)) count new h = ap life_of h
stopped world (Some (RevsDiff asked)) count new h = ap life_of h
stopped world (Some (OpenRevs id revs)) count new h = ap life_of h
stopped world (Some (LocalPut side log)) count new h = ap life_of h

-- items that answer a call for changes keep the source's life
handed : (world : World) (next : Option Call) (items : List ChangeItem) (new : World)
    → IsChangesReply world next items new → new.life ≡ world.life
handed world (Some (Changes since)) items new (inl (rows, last, right, e)) = ap life_of e
handed world (Some (Changes since)) items new (inr (wrong, e)) = ap life_of e
handed world None items new h = ap life_of h
handed world (Some (LocalGet side)) items new h = ap life_of h
handed world (Some (RevsDiff asked)) items new h = ap life_of h
handed world (Some (OpenRevs id revs)) items new h = ap life_of h
handed world (Some (Merge docs)) items new h = ap life_of h
handed world (Some (LocalPut side log)) items new h = ap life_of h

pub life_stays : LifeStays
life_stays w new (Write docs) e = ap life_of e
life_stays w new (InteractiveWrite drafts) e = ap life_of e
life_stays w new (Start session_id) (inl (can, e)) = ap life_of e
life_stays w new (Start session_id) (inr (can, e)) = ap life_of e
life_stays w new Round e = ap life_of e
life_stays w new Checkpoint e = ap life_of e
life_stays w new Reply h = behind w (next_call w.follower) (after_answer w.follower) new h
life_stays w new (ChangesReply items) h = handed w (next_call w.follower) items new h
life_stays w new LossBefore e = ap life_of e
life_stays w new LossAfter h = behind w (next_call w.follower) (λ answer. after_failure w.follower) new h
life_stays w new (PartialMerge count) h = stopped w (next_call w.follower) count new h
life_stays w new Restart e = ap life_of e
