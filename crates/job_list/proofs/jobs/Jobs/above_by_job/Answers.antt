use Rattle.job_list.proofs.Above.{begins, part_there, end_room, start_room, goes_on, found, ends}
use Rattle.job_list.proofs.jobs.Jobs.above_by_job.Goals as goal

pub loop-q-init : goal.loop-q-init
loop-q-init c = begins _ _ _

pub overflow_add-end : goal.overflow_add-end
overflow_add-end c = search end_room

pub offset_bounds-self-start : goal.offset_bounds-self-start
offset_bounds-self-start c = search start_room

pub slice_bounds-has_word_above-end : goal.slice_bounds-has_word_above-end
slice_bounds-has_word_above-end c = search part_there

pub returns-then-has_word_above : goal.returns-then-has_word_above
returns-then-has_word_above c = search found depth 9

pub loop-q-preserved : goal.loop-q-preserved
loop-q-preserved c = search goes_on depth 9

pub returns : goal.returns
returns c = search ends
