-- `packet_reader::read_data` meets its contract. Each answer is a law of `ReadFields`. The sums fit because data that reads ends inside
-- the octets. Assumes nothing.
use Rattle.std.proofs.lemmas.Result.{err_from_is_err_and}
use Rattle.packet_reader.proofs.ReadFields.{datas}
use Rattle.packet_reader.proofs.items.read_data.Goals as goal

pub returns-in_err-at : goal.returns-in_err-at
returns-in_err-at c =
    let p = err_from_is_err_and c.from_residual.result c.from_residual.ensures.1 in
    rw (p.1, p.2) (search (datas, c.in_err-at.was))

pub slice_bounds-read_size-count : goal.slice_bounds-read_size-count
slice_bounds-read_size-count c = search (datas, c.in_ok-at.was)

pub slice_bounds-read_size-start : goal.slice_bounds-read_size-start
slice_bounds-read_size-start c = search (datas, c.in_ok-at.was)

pub further-requires : goal.further-requires
further-requires c = search (datas, c.in_ok-at.was)

pub overflow_add-start : goal.overflow_add-start
overflow_add-start c = search (datas, c.in_ok-at.was)

pub overflow_add-result : goal.overflow_add-result
overflow_add-result c = search (datas, c.in_ok-at.was)

pub overflow_mul-result : goal.overflow_mul-result
overflow_mul-result c = search (datas, c.in_ok-at.was)

pub returns-in-Err : goal.returns-in-Err
returns-in-Err c = search (datas, c.in_ok-at.was)

pub returns-in-Ok : goal.returns-in-Ok
returns-in-Ok c = search (datas, c.in_ok-at.was)
