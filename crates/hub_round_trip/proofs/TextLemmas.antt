-- The text of a document reads as the document.
use Rattle.std.proofs.Common.{◌≡◌, ℕ, ◌<◌, ◌≤◌, List, length, Bool, true, false, Option, Some}
use Rattle.std.proofs.Common.{None, option_map, cond, codes, refl, sym, ap, ◌∙◌, arith, le-ltb}
use Rattle.std.proofs.lemmas.Str.{is_utf8-from_IsUtf8}
use Rattle.std.specs.Prelude.{not, is_some, nat_lt, slice_get, Ok, IfSome}
use Rattle.std.specs.Str.{is_utf8}
use Rattle.hub_model.specs.Revision.{Revision, IsRevision, text_of}
use Rattle.json.proofs.Printed.Utf8.{IsUtf8-are_ascii}
use Rattle.serde_json.specs.Data.{Data, boolean, string, object, Members}
use Rattle.serde_json.specs.Data.{no_members, member, put, depth, members_depth}
use Rattle.serde_json.specs.Find.{get, get_member}
use Rattle.serde_json.specs.Read.{of_json, of_members, max_depth}
use Rattle.serde_json.specs.Written.{compact_text, outline, members_outline}
use Rattle.hub_document.specs.BodyText.{is_hidden, plain, body_text}
use Rattle.hub_document.specs.DocText.{doc_text}
use Rattle.hub_document.specs.Histories.{rev_of, if_head}
use Rattle.hub_document.specs.Ids.{id_of}
use Rattle.hub_document.specs.Read.{history_of, with_path, json_of, doc_in}
use Rattle.hub_round_trip.specs.RoundTrip.{AreWritableMembers, AreOrderedMembers, DoKeysRise, IsPathOf, IsDoc}
use Rattle.hub_document.specs.SpecialMembers.{deleted_of}
use Rattle.hub_document.specs.declared.doc.Doc.{Doc}
use Rattle.hub_round_trip.proofs.HistoryLemmas.{utf8-text_of, hashes_flat, hashes_whole}
use Rattle.hub_round_trip.proofs.HistoryLemmas.{history_read, history_writable, of_json-history}
use Rattle.hub_round_trip.proofs.HistoryLemmas.{history_in-history_read, head_is_head}
use Rattle.hub_round_trip.proofs.MemberLemmas.{rise_put, plain-puts, get_member-puts, AllFit}
use Rattle.hub_round_trip.proofs.MemberLemmas.{fit_put, fit-puts, good-fit, whole-fit}
use Rattle.hub_round_trip.proofs.WrittenLemmas.{rev_by, deleted_by, history_by}
use Rattle.hub_round_trip.proofs.WrittenLemmas.{history_written, written, doc_text-written}
use Rattle.hub_round_trip.proofs.ValueLemmas.{puts, puts-no_members, read-compact_text}
use Rattle.hub_round_trip.proofs.ValueLemmas.{utf8-compact_text, of_members-members_outline}
use Rattle.hub_document.proofs.TextLemmas.{revision_of-text_of}

-- ---- the members that begin with `_`, in order

abbrev special : List ℕ → Option Revision → Bool → Option (List Revision) → Members
special id rev deleted path =
    history_by put history_read path
    (deleted_by put deleted (rev_by put rev (put (codes "_id") (string id) no_members)))

-- the values of these members
record Holds (id : List ℕ) (rev : Option Revision) (deleted : Bool) (path : Option (List Revision))
    (ms : Members) : Type 0 where
  id_is : get_member (codes "_id") ms ≡ Some (string id)
  rev_is : get_member (codes "_rev") ms ≡ option_map (λ r. string (text_of r)) rev
  deleted_is : get_member (codes "_deleted") ms ≡ cond deleted (Some (boolean true)) None
  history_is : get_member (codes "_revisions") ms ≡ option_map history_read path

special_holds : (id : List ℕ) (rev : Option Revision) (deleted : Bool) (path : Option (List Revision))
    → Holds id rev deleted path (special id rev deleted path)
special_holds id None false None =
    record { id_is = refl; rev_is = refl; deleted_is = refl; history_is = refl }
special_holds id None false (Some path) =
    record { id_is = refl; rev_is = refl; deleted_is = refl; history_is = refl }
special_holds id None true None = record { id_is = refl; rev_is = refl; deleted_is = refl; history_is = refl }
special_holds id None true (Some path) =
    record { id_is = refl; rev_is = refl; deleted_is = refl; history_is = refl }
special_holds id (Some revision) false None =
    record { id_is = refl; rev_is = refl; deleted_is = refl; history_is = refl }
special_holds id (Some revision) false (Some path) =
    record { id_is = refl; rev_is = refl; deleted_is = refl; history_is = refl }
special_holds id (Some revision) true None =
    record { id_is = refl; rev_is = refl; deleted_is = refl; history_is = refl }
special_holds id (Some revision) true (Some path) =
    record { id_is = refl; rev_is = refl; deleted_is = refl; history_is = refl }

special_hidden : (id : List ℕ) (rev : Option Revision) (deleted : Bool) (path : Option (List Revision))
    → plain (special id rev deleted path) ≡ no_members
special_hidden id None false None = refl
special_hidden id None false (Some path) = refl
special_hidden id None true None = refl
special_hidden id None true (Some path) = refl
special_hidden id (Some revision) false None = refl
special_hidden id (Some revision) false (Some path) = refl
special_hidden id (Some revision) true None = refl
special_hidden id (Some revision) true (Some path) = refl

rev_rises : (rev : Option Revision) (ms : Members) → DoKeysRise ms → DoKeysRise (rev_by put rev ms)
rev_rises None ms h = h
rev_rises (Some revision) ms h = rise_put _ _ ms h

deleted_rises : (deleted : Bool) (ms : Members) → DoKeysRise ms → DoKeysRise (deleted_by put deleted ms)
deleted_rises false ms h = h
deleted_rises true ms h = rise_put _ _ ms h

history_rises : (path : Option (List Revision)) (ms : Members) → DoKeysRise ms
    → DoKeysRise (history_by put history_read path ms)
history_rises None ms h = h
history_rises (Some path) ms h = rise_put _ _ ms h

special_rises : (id : List ℕ) (rev : Option Revision) (deleted : Bool) (path : Option (List Revision))
    → DoKeysRise (special id rev deleted path)
special_rises id rev deleted path = history_rises path _ (deleted_rises deleted _ (rev_rises rev _ (tt, tt)))

rev_fits : (rev : Option Revision) (ms : Members) → AllFit ms → AllFit (rev_by put rev ms)
rev_fits None ms h = h
rev_fits (Some revision) ms h = fit_put (codes "_rev") (string (text_of revision)) ms refl refl h

deleted_fits : (deleted : Bool) (ms : Members) → AllFit ms → AllFit (deleted_by put deleted ms)
deleted_fits false ms h = h
deleted_fits true ms h = fit_put (codes "_deleted") (boolean true) ms refl refl h

history_fits : (path : Option (List Revision)) (ms : Members) → AllFit ms
    → AllFit (history_by put history_read path ms)
history_fits None ms h = h
history_fits (Some path) ms h =
    fit_put (codes "_revisions") (history_read path) ms refl (rw (hashes_whole path) refl) h

special_fits : (id : List ℕ) (rev : Option Revision) (deleted : Bool) (path : Option (List Revision))
    → AllFit (special id rev deleted path)
special_fits id rev deleted path =
    history_fits path _ (deleted_fits deleted _ (rev_fits rev _ (refl, refl, tt)))

-- ---- the text that is written can be read

history_before_writable : (rev : Option Revision) (path : Option (List Revision)) (ms : Members)
    → IfSome path (IsPathOf rev) → AreWritableMembers ms
    → AreWritableMembers (history_by member history_written path ms)
history_before_writable rev None ms h w = w
history_before_writable rev (Some path) ms h w = (IsUtf8-are_ascii _ refl, history_writable rev path h, w)

deleted_before_writable : (deleted : Bool) (ms : Members) → AreWritableMembers ms
    → AreWritableMembers (deleted_by member deleted ms)
deleted_before_writable false ms w = w
deleted_before_writable true ms w = (IsUtf8-are_ascii _ refl, tt, w)

rev_before_writable : (rev : Option Revision) (ms : Members) → IfSome rev IsRevision → AreWritableMembers ms
    → AreWritableMembers (rev_by member rev ms)
rev_before_writable None ms h w = w
rev_before_writable (Some revision) ms h w = (IsUtf8-are_ascii _ refl, utf8-text_of revision h, w)

history_before_depth : (path : Option (List Revision)) (ms : Members) → members_depth ms < max_depth
    → members_depth (history_by member history_written path ms) < max_depth
history_before_depth None ms h = h
history_before_depth (Some path) ms h = omega (arith, hashes_flat path)

deleted_before_depth : (deleted : Bool) (ms : Members) → members_depth ms < max_depth
    → members_depth (deleted_by member deleted ms) < max_depth
deleted_before_depth false ms h = h
deleted_before_depth true ms h = omega arith

rev_before_depth : (rev : Option Revision) (ms : Members) → members_depth ms < max_depth
    → members_depth (rev_by member rev ms) < max_depth
rev_before_depth None ms h = h
rev_before_depth (Some revision) ms h = omega arith

-- the text gives these members, and the document's own after them
history_outline : (rev : Option Revision) (path : Option (List Revision)) (ms found : Members)
    → IfSome path (IsPathOf rev) → AreWritableMembers ms → AreOrderedMembers ms
    → of_members (members_outline (history_by member history_written path ms)) found
    ≡ Some (puts ms (history_by put history_read path found))
history_outline rev None ms found h w o = of_members-members_outline ms found w o
history_outline rev (Some path) ms found h w o =
    rw (of_json-history rev path h)
    (of_members-members_outline ms (put (codes "_revisions") (history_read path) found) w o)

deleted_outline : (deleted : Bool) (ms found : Members)
    → of_members (members_outline (deleted_by member deleted ms)) found
    ≡ of_members (members_outline ms) (deleted_by put deleted found)
deleted_outline false ms found = refl
deleted_outline true ms found = refl

rev_outline : (rev : Option Revision) (ms found : Members)
    → of_members (members_outline (rev_by member rev ms)) found
    ≡ of_members (members_outline ms) (rev_by put rev found)
rev_outline None ms found = refl
rev_outline (Some revision) ms found = refl

-- ---- the document of these members

if_head_is : (rev : Option Revision) (path : List Revision) → slice_get path 0 ≡ rev
    → if_head rev path ≡ Some path
if_head_is rev path h = rw (head_is_head rev path h) refl

rev_read : (rev : Option Revision) (path : Option (List Revision)) (content : Data) → IfSome rev IsRevision
    → IfSome path (IsPathOf rev)
    → get (codes "_rev") content ≡ option_map (λ revision. string (text_of revision)) rev
    → get (codes "_revisions") content ≡ option_map history_read path
    → rev_of (not (is_some path)) content ≡ Some rev
rev_read None None content good h first second = rw first refl
rev_read None (Some path) content good h first second = rw (first, second) refl
rev_read (Some revision) None content good h first second = rw (first, revision_of-text_of revision good) refl
rev_read (Some revision) (Some path) content good h first second =
    rw (first, revision_of-text_of revision good) refl

history_read_back : (rev : Option Revision) (path : Option (List Revision)) (content : Data)
    → IfSome path (IsPathOf rev)
    → get (codes "_revisions") content ≡ option_map history_read path
    → history_of (not (is_some path)) rev content ≡ Some (rev, path)
history_read_back rev None content h second = refl
history_read_back rev (Some path) content h second =
    rw (second, history_in-history_read rev path h, if_head_is rev path h.head)
    (ap (λ head. Some (head, Some path)) h.head)

deleted_read : (deleted : Bool) (content : Data)
    → get (codes "_deleted") content ≡ cond deleted (Some (boolean true)) None → deleted_of content ≡ deleted
deleted_read true content h = rw h refl
deleted_read false content h = rw h refl

module _ (doc : Doc) (h : IsDoc doc) where
  abbrev all : Members
  all = puts h.body.members (special doc.id doc.rev doc.deleted doc.path)

  abbrev text : Data
  text = object (written doc.id doc.rev doc.deleted doc.path h.body.members)

  text_writable : AreWritableMembers (written doc.id doc.rev doc.deleted doc.path h.body.members)
  text_writable = (
    IsUtf8-are_ascii _ refl,
    h.utf8,
    rev_before_writable doc.rev _ h.rev
        (deleted_before_writable doc.deleted _
        (history_before_writable doc.rev doc.path _ h.path h.body.writable)),
  )

  text_shallow : depth text ≤ max_depth
  text_shallow =
      let shallow : members_depth h.body.members < max_depth = (let s = h.body.shallow in omega arith) in
      omega (
        arith,
        rev_before_depth doc.rev _
            (deleted_before_depth doc.deleted _ (history_before_depth doc.path h.body.members shallow)),
      )

  text_outline : of_json (outline text) ≡ Some (object all)
  text_outline =
      ap (option_map object)
      (rev_outline doc.rev _ (put (codes "_id") (string doc.id) no_members)
      ∙ deleted_outline doc.deleted _ (rev_by put doc.rev (put (codes "_id") (string doc.id) no_members))
      ∙ history_outline doc.rev doc.path h.body.members
      (deleted_by put doc.deleted (rev_by put doc.rev (put (codes "_id") (string doc.id) no_members))) h.path
      h.body.writable h.body.ordered.1)

  text_read : json_of (doc_text doc) ≡ Some (object all)
  text_read =
      let is = doc_text-written doc h.body.members h.body.text_is in
      let valid : is_utf8 (compact_text text) ≡ true =
      is_utf8-from_IsUtf8 _ (utf8-compact_text text text_writable) in
      ap json_of is ∙ rw valid (read-compact_text text text_writable text_shallow ∙ text_outline)

  special_is : Holds doc.id doc.rev doc.deleted doc.path (special doc.id doc.rev doc.deleted doc.path)
  special_is = special_holds doc.id doc.rev doc.deleted doc.path

  found : (q : List ℕ) → is_hidden q ≡ true
      → get q (object all) ≡ get_member q (special doc.id doc.rev doc.deleted doc.path)
  found q hides = get_member-puts q h.body.members _ hides h.body.own

  fits : AllFit all
  fits =
      fit-puts h.body.members _ h.body.own h.body.writable (special_fits doc.id doc.rev doc.deleted doc.path)

  body_back : body_text all ≡ doc.body
  body_back =
      ap (λ ms. compact_text (object ms))
      (plain-puts h.body.members _ h.body.own (special_rises doc.id doc.rev doc.deleted doc.path)
      ∙ ap (puts h.body.members) (special_hidden doc.id doc.rev doc.deleted doc.path)
      ∙ puts-no_members h.body.members h.body.ordered.0)
      ∙ sym h.body.text_is

  id_back : id_of (object all) ≡ Some doc.id
  id_back = rw (found (codes "_id") refl ∙ special_is.id_is, h.id.id) refl

  rest_back : with_path (object all) all doc.id doc.rev doc.path ≡ Ok doc
  rest_back =
      let short : nat_lt 512 (length doc.id) ≡ false = le-ltb _ _ h.id.short in
      rw (
        good-fit all fits,
        short,
        deleted_read doc.deleted (object all) (found (codes "_deleted") refl ∙ special_is.deleted_is),
        body_back,
      ) refl

  pub doc_text_reads : doc_in (not (is_some doc.path)) (doc_text doc) ≡ Ok doc
  doc_text_reads =
      let rev =
      rev_read doc.rev doc.path (object all) h.rev h.path (found (codes "_rev") refl ∙ special_is.rev_is)
      (found (codes "_revisions") refl ∙ special_is.history_is) in
      let history =
      history_read_back doc.rev doc.path (object all) h.path
      (found (codes "_revisions") refl ∙ special_is.history_is) in
      rw (text_read, whole-fit all fits, id_back, rev, history) rest_back
