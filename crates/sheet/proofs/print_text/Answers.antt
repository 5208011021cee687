-- `print_text` meets its contract: the buffers begin with the list that was read, whose sheet is printed; or the refusal's line is.
use Rattle.std.proofs.Common.{sym}
use Rattle.sheet.proofs.Text.{read_list, sizes_ready, words_within, words_part, list_accepted, list_printed}
use Rattle.sheet.proofs.print_text.Goals as goal

-- the words of the list
pub slice_bounds-words_before-end : goal.slice_bounds-words_before-end
slice_bounds-words_before-end c = (read_list c.args.text.now c.requires c.in-Ok.is c.read-answer.ensures).few

pub slice_bounds-words_before-end-in-Ok : goal.slice_bounds-words_before-end-in-Ok
slice_bounds-words_before-end-in-Ok c = sym (read_list c.args.text.now c.requires c.in-Ok.is c.read-answer.ensures).count

pub words_before-words-requires : goal.words_before-words-requires
words_before-words-requires c = sizes_ready (read_list c.args.text.now c.requires c.in-Ok.is c.read-answer.ensures)

-- the list
pub slice_bounds-print_list-end : goal.slice_bounds-print_list-end
slice_bounds-print_list-end c = (read_list c.args.text.now c.requires c.in-Ok.is c.read-answer.ensures).few_algebras

pub slice_bounds-print_list-end-in-Ok : goal.slice_bounds-print_list-end-in-Ok
slice_bounds-print_list-end-in-Ok c = sym (read_list c.args.text.now c.requires c.in-Ok.is c.read-answer.ensures).count_algebras

pub slice_bounds-print_list-end-in-Ok-2 : goal.slice_bounds-print_list-end-in-Ok-2
slice_bounds-print_list-end-in-Ok-2 c = (read_list c.args.text.now c.requires c.in-Ok.is c.read-answer.ensures).few

pub slice_bounds-print_list-end-in-Ok-3 : goal.slice_bounds-print_list-end-in-Ok-3
slice_bounds-print_list-end-in-Ok-3 c = sym (read_list c.args.text.now c.requires c.in-Ok.is c.read-answer.ensures).count

pub slice_bounds-print_list-end-in-Ok-4 : goal.slice_bounds-print_list-end-in-Ok-4
slice_bounds-print_list-end-in-Ok-4 c = words_within (read_list c.args.text.now c.requires c.in-Ok.is c.read-answer.ensures) c.words_before-words.ensures.exact

pub slice_bounds-print_list-end-in-Ok-5 : goal.slice_bounds-print_list-end-in-Ok-5
slice_bounds-print_list-end-in-Ok-5 c = words_part (read_list c.args.text.now c.requires c.in-Ok.is c.read-answer.ensures) c.words_before-words.ensures.exact

pub print_list-requires : goal.print_list-requires
print_list-requires c = list_accepted (read_list c.args.text.now c.requires c.in-Ok.is c.read-answer.ensures) c.words_before-words.ensures.exact

-- the sheet
pub returns-in-Ok : goal.returns-in-Ok
returns-in-Ok c =
    list_printed (read_list c.args.text.now c.requires c.in-Ok.is c.read-answer.ensures) c.words_before-words.ensures.exact c.print_list.ensures
