-- What stands behind a key hangs on the word that it is.
use Rattle.amf_text.specs.Asks.{step}
use Rattle.amf_text_read.proofs.table.at_key.Goals as goal

pub returns-in-Object : goal.returns-in-Object
unfolding step
returns-in-Object c = λ alone h gs. rw c.in-Object.is (rw (← c.tag_of.ensures) (c.value_goals.ensures h gs))

pub returns-in-NodeObject : goal.returns-in-NodeObject
unfolding step
returns-in-NodeObject c = λ alone h gs. rw c.in-NodeObject.is (rw (← c.tag_of-in-NodeObject.ensures) (c.node_goals.ensures h gs))

pub returns-in-ClassRest : goal.returns-in-ClassRest
unfolding step
returns-in-ClassRest c = λ alone h gs. rw c.in-ClassRest.is (rw (← c.tag_of-in-ClassRest.ensures) (c.class_goals.ensures h gs))

pub returns-in-Begun : goal.returns-in-Begun
unfolding step
returns-in-Begun c = λ alone h gs. rw c.in-Begun.is (rw (← c.tag_of-in-Begun.ensures) (c.begun_goals.ensures h gs))

pub returns-in-VectorKey : goal.returns-in-VectorKey
unfolding step
returns-in-VectorKey c = λ alone h gs. rw c.in-VectorKey.is (rw (← c.tag_of-in-VectorKey.ensures) (c.vector_goals.ensures h gs))
