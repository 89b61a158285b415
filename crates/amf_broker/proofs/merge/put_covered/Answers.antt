-- One message more is put among the others, if it is covered.
use Rattle.std.proofs.Common.{◌≡◌, ◌∷◌, ◌++◌, ◌∙◌, [], true, false, take, map, refl, ap, sym}
use Rattle.std.specs.Prelude.{filter}
use Rattle.std.proofs.lemmas.List.{take_more}
use Rattle.amf_broker.specs.Lines.{put_all, is_covered, delivered}
use Rattle.amf_broker.specs.Members.{raised}
use Rattle.amf_broker.proofs.Merges.{covered-next}
use Rattle.amf_broker.proofs.merge.put_covered.Goals as goal
use Rattle.amf_broker.proofs.merge.put_covered.Goals.{then-covers+in_ok-put_post, else-covers}

pub loop-post-preserved : goal.loop-post-preserved
loop-post-preserved c =
    let i = c.loop-post.post-index in
    let ms = c.args.posts.now in
    let u = raised c.args.next c.args.place.now in
    let f = delivered c.args.place.now.id in
    let q = c.args.queue.now.items in
    let more = take_more ms i c.post-item.result c.loop-post-test.true in
    let all = ap (λ m. take i ms ++ (m ∷ [])) c.post-item.is ∙ sym more in
    elim c.if-covers.branch [
      | then-covers+in_ok-put_post w ↦
          let is : is_covered u.start u.stop c.post-item.result ≡ true = sym c.covers.ensures ∙ w.if-covers.true in
          ap (λ v. v.items) w.queue-is
          ∙ (covered-next (is_covered u.start u.stop) f c.post-item.result (take i ms) q c.loop-post.queue.items w.put_post.new.queue.items true is c.loop-post.invariant w.in_ok-put_post.ensures
          ∙ ap (λ l. put_all (map f (filter (is_covered u.start u.stop) l)) q) all)
      | else-covers w ↦
          let is : is_covered u.start u.stop c.post-item.result ≡ false = sym c.covers.ensures ∙ w.if-covers.false in
          ap (λ v. v.items) w.queue-is
          ∙ (covered-next (is_covered u.start u.stop) f c.post-item.result (take i ms) q c.loop-post.queue.items c.loop-post.queue.items false is c.loop-post.invariant refl
          ∙ ap (λ l. put_all (map f (filter (is_covered u.start u.stop) l)) q) all)
    ]
