-- `print_file` meets its contract: the buffer begins with the table that was read, which is closed and printed; or the refusal is.
use Rattle.road_sheet.proofs.Files.{refusal_printed, words_room, table_within, table_part, closed_within, closed_part, to_close, table_printed}
use Rattle.road_sheet.proofs.print_file.Goals as goal

pub overflow_mul-words : goal.overflow_mul-words
overflow_mul-words c = search words_room

pub slice_bounds-print_closed-end : goal.slice_bounds-print_closed-end
slice_bounds-print_closed-end c = search table_within

pub slice_bounds-print_closed-end-in-Ok : goal.slice_bounds-print_closed-end-in-Ok
slice_bounds-print_closed-end-in-Ok c = search table_part

pub slice_bounds-print_closed-end-in-Ok-2 : goal.slice_bounds-print_closed-end-in-Ok-2
slice_bounds-print_closed-end-in-Ok-2 c = search closed_within

pub slice_bounds-print_closed-end-in-Ok-3 : goal.slice_bounds-print_closed-end-in-Ok-3
slice_bounds-print_closed-end-in-Ok-3 c = search closed_part

pub print_closed-requires : goal.print_closed-requires
print_closed-requires c = search to_close

pub returns-in-Ok : goal.returns-in-Ok
returns-in-Ok c = search table_printed

pub returns-in-Err : goal.returns-in-Err
returns-in-Err c = search refusal_printed
